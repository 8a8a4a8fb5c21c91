-- What is shown of every short list: how many there are (`counts`), that they are every list of the letters (`every`) and no other
-- (`only`), that each occurs one time (`once`), that short ones come first (`shorter-first`), then by the letters from the left
-- (`smaller-first`), and that a list stands at the same position whatever the length (`longer`). Assumes nothing.
use Prim.Native.Nat.{ℕ, zero, suc, ◌+◌, ◌*◌, ◌^◌, ◌/◌, ◌%◌, ◌-◌, ◌≤◌, ◌<◌}
use mathlib.Core.{Path.{◌≡◌, refl, ap, sym, ◌∙◌}, Bool.{Bool, true, false}, List.{List, [], ◌∷◌, ◌++◌}}
use native.Mathlib.Omega.{arith}
use native.Mathlib.Nat.{add-zero, add-suc, suc-mul, zero-mul, mul-zero, mul_comm, mul-le-mul_right, pow-zero, pow-suc}
use native.Mathlib.Nat.{div-add-mod', mod-lt, div-lt_iff_lt-mul}
use lib.{Dec.{leb, ltb}, ListN.{length, get_or, length-append, get_or-append}, Seq.{get_or-append-add}}
use borrow.Author.Tests.{leb-true, leb-false, ltb-true, ltb-false}
use Rattle.molang.{specs.Forest.{Token}, specs.Lines.{tokens_from}, proofs.Booleans.{either}, proofs.Trees.{both}}
use Rattle.shortlists.specs.ShortLists.{led, before, of_length, up_to, powers, among, are_letters, Stands, is_alphabet, list_at, Smaller}
use Rattle.shortlists.specs.ShortLists.{differs, agrees}
use Rattle.shortlists.proofs.AlphabetLaws.{Distinct, alphabet, apart, among-at, Occurs, occurs}

-- ---- How many

length-led : (a : ℕ) (ls : List (List ℕ)) → length (led a ls) ≡ length ls
unfolding led
length-led a [] = refl
length-led a (l ∷ ls) = ap suc (length-led a ls)

length_before : (letters : List ℕ) (ls : List (List ℕ)) → length (before letters ls) ≡ length letters * length ls
unfolding before
length_before [] ls = sym (zero-mul (length ls))
length_before (a ∷ letters) ls =
    omega (
      arith,
      length-append (led a ls) (before letters ls),
      length-led a ls,
      length_before letters ls,
      suc-mul (length letters) (length ls),
    )

-- The lists of n letters.
pub length-of : (letters : List ℕ) (n : ℕ) → length (of_length letters n) ≡ length letters ^ n
unfolding of_length
length-of letters zero = sym (pow-zero (length letters))
length-of letters (suc n) =
    length_before letters (of_length letters n)
    ∙ (ap (λ (m : ℕ). length letters * m) (length-of letters n)
    ∙ (mul_comm (length letters) (length letters ^ n) ∙ sym (pow-suc (length letters) n)))

-- HOW MANY LISTS there are of at most n letters.
pub counts : (letters : List ℕ) (n : ℕ) → length (up_to letters n) ≡ powers (length letters) (suc n)
unfolding up_to powers
counts letters zero = omega (arith, length-of letters zero)
counts letters (suc n) =
    omega (arith, length-append (up_to letters n) (of_length letters (suc n)), counts letters n, length-of letters (suc n))

-- ---- The list at a position

at-led : (a : ℕ) (ls : List (List ℕ)) (r : ℕ) → r < length ls → get_or (led a ls) r [] ≡ a ∷ get_or ls r []
unfolding led
at-led a [] r h = absurd (omega arith)
at-led a (l ∷ ls) zero h = refl
at-led a (l ∷ ls) (suc r) h = at-led a ls r (omega arith)

-- The list at q times the number of lists, and r: letter q before list r.
pub at_before : (letters : List ℕ) (ls : List (List ℕ)) (q r i : ℕ) → i ≡ q * length ls + r → q < length letters → r < length ls
    → get_or (before letters ls) i [] ≡ get_or letters q 0 ∷ get_or ls r []
unfolding before
at_before [] ls q r i e hq hr = absurd (omega arith)
at_before (a ∷ letters) ls zero r i e hq hr =
    let same : i ≡ r = omega (arith, zero-mul (length ls)) in
    rw same (get_or-append (led a ls) (before letters ls) [] r (omega (arith, length-led a ls)) ∙ at-led a ls r hr)
at_before (a ∷ letters) ls (suc q) r i e hq hr =
    let later = q * length ls + r in
    let same : i ≡ length (led a ls) + later = omega (arith, length-led a ls, suc-mul q (length ls)) in
    rw same (get_or-append-add (led a ls) (before letters ls) later [] ∙ at_before letters ls q r later refl (omega arith) hr)

-- A position among lists that begin with each letter, by that letter's index and the position of what stands behind it.
record Split (letters : List ℕ) (ls : List (List ℕ)) (i : ℕ) : Type 0 where
  pub first : ℕ
  pub rest : ℕ
  pub first_below : first < length letters
  pub rest_below : rest < length ls
  pub whole : i ≡ first * length ls + rest
  pub is : get_or (before letters ls) i [] ≡ get_or letters first 0 ∷ get_or ls rest []

split : (letters : List ℕ) (ls : List (List ℕ)) (i : ℕ) → i < length (before letters ls) → Split letters ls i
split letters [] i h = absurd (omega (arith, length_before letters [], mul-zero (length letters)))
split letters (l ∷ rest) i h =
    let ls = l ∷ rest in
    let n = length ls in
    let some : 0 < n = omega arith in
    let whole : i ≡ i / n * n + i % n = sym (div-add-mod' i n) in
    let first : i / n < length letters = (div-lt_iff_lt-mul some).1 (omega (arith, length_before letters ls)) in
    record {
      first = i / n;
      rest = i % n;
      first_below = first;
      rest_below = mod-lt i some;
      whole = whole;
      is = at_before letters ls (i / n) (i % n) i whole first (mod-lt i some);
    }

module _ (letters : List ℕ) where
  -- A list stands at the same position among longer ones.
  further : (n d i : ℕ) → i < length (up_to letters n)
      → (i < length (up_to letters (n + d))) × (get_or (up_to letters (n + d)) i [] ≡ get_or (up_to letters n) i [])
  unfolding up_to
  further n zero i h = rw (add-zero n) (h, refl)
  further n (suc d) i h =
      let inner = further n d i h in
      let below = inner.0 in
      let longest = of_length letters (suc (n + d)) in
      rw (add-suc n d) (
        omega (arith, length-append (up_to letters (n + d)) longest),
        get_or-append (up_to letters (n + d)) longest [] i below ∙ inner.1,
      )

  -- THE SAME POSITION whatever the length.
  pub longer : (n m i : ℕ) → n ≤ m → i < length (up_to letters n) → get_or (up_to letters m) i [] ≡ get_or (up_to letters n) i []
  longer n m i le h =
      let same : m ≡ n + (m - n) = omega arith in
      ap (λ (k : ℕ). get_or (up_to letters k) i []) same ∙ (further n (m - n) i h).1

  pub still-below : (n m i : ℕ) → n ≤ m → i < length (up_to letters n) → i < length (up_to letters m)
  still-below n m i le h = let same : m ≡ n + (m - n) = omega arith in rw same (further n (m - n) i h).0

  -- BY ITS LENGTH: behind the lists that are shorter than n, those of n letters.
  pub at_length : (n m i r : ℕ) → n ≤ m → r < length (of_length letters n) → i ≡ powers (length letters) n + r
      → get_or (up_to letters m) i [] ≡ get_or (of_length letters n) r []
  unfolding up_to powers
  at_length zero m i r le below whole =
      let same : i ≡ r = omega arith in longer zero m i le (omega arith) ∙ ap (λ (j : ℕ). get_or (of_length letters zero) j []) same
  at_length (suc n) m i r le below whole =
      let shorter = up_to letters n in
      let longest = of_length letters (suc n) in
      let same : i ≡ length shorter + r = omega (arith, counts letters n) in
      longer (suc n) m i le (omega (arith, length-append shorter longest))
      ∙ (ap (λ (j : ℕ). get_or (shorter ++ longest) j []) same ∙ get_or-append-add shorter longest r [])

  -- Where a list stands: among those of its length, behind so many of them.
  record Standing (n i : ℕ) : Type 0 where
    pub long : ℕ
    pub left : ℕ
    pub short : long ≤ n
    pub below : left < length (of_length letters long)
    pub whole : i ≡ powers (length letters) long + left

  standing : (n i : ℕ) → i < length (up_to letters n) → Standing n i
  unfolding up_to powers
  standing zero i h = record { long = 0; left = i; short = omega arith; below = h; whole = omega arith }
  standing (suc n) i h = by (ltb i (length (up_to letters n))) refl (standing n i)
    where
      by : (b : Bool) → ltb i (length (up_to letters n)) ≡ b → (i < length (up_to letters n) → Standing n i) → Standing (suc n) i
      by true e inner =
          let s = inner (ltb-true i (length (up_to letters n)) e) in
          record { long = s.long; left = s.left; short = let h = s.short in omega arith; below = s.below; whole = s.whole }
      by false e inner =
          let above = ltb-false i (length (up_to letters n)) e in
          record {
            long = suc n;
            left = i - length (up_to letters n);
            short = omega arith;
            below = omega (arith, length-append (up_to letters n) (of_length letters (suc n)));
            whole = omega (arith, counts letters n);
          }

  stands : (n i : ℕ) (s : Standing n i) → get_or (up_to letters n) i [] ≡ get_or (of_length letters s.long) s.left []
  stands n i s = at_length s.long n i s.left s.short s.below s.whole

  -- ---- How long

  -- A list of n letters.
  pub length_at : (n i : ℕ) → i < length (of_length letters n) → length (get_or (of_length letters n) i []) ≡ n
  unfolding of_length
  length_at zero zero h = refl
  length_at zero (suc i) h = absurd (omega arith)
  length_at (suc n) i h =
      let s = split letters (of_length letters n) i h in ap length s.is ∙ ap suc (length_at n s.rest s.rest_below)

  -- A list of at most n.
  length_up : (n i : ℕ) (s : Standing n i) → length (get_or (up_to letters n) i []) ≡ s.long
  length_up n i s = ap length (stands n i s) ∙ length_at s.long s.left s.below

  -- SHORT ONES FIRST.
  pub shorter-first : (n i j : ℕ) → i < j → j < length (up_to letters n)
      → length (get_or (up_to letters n) i []) ≤ length (get_or (up_to letters n) j [])
  unfolding powers
  shorter-first n i j lt h =
      let s = standing n i (omega arith) in
      let t = standing n j h in
      let below : j < length (up_to letters t.long) =
      omega (arith, t.whole, t.below, counts letters t.long, length-of letters t.long)
      in
      either (leb s.long t.long) (λ e. omega (arith, leb-true s.long t.long e, length_up n i s, length_up n j t))
      (λ e.
      let fewer = leb-false s.long t.long e in
      let one : s.long ≡ suc (s.long - 1) = omega arith in
      absurd
      (omega (
        arith,
        s.whole,
        still-below t.long (s.long - 1) j (omega arith) below,
        counts letters (s.long - 1),
        ap (powers (length letters)) one,
      )))

  -- ---- In which order, within one length

  smaller-of : (n i j : ℕ) → i < j → j < length (of_length letters n)
      → Smaller letters (get_or (of_length letters n) i []) (get_or (of_length letters n) j [])
  unfolding of_length
  smaller-of zero i j lt h = absurd (omega arith)
  smaller-of (suc n) i j lt h =
      let ls = of_length letters n in
      let s = split letters ls i (omega arith) in
      let t = split letters ls j h in
      rw (s.is, t.is)
      (either (ltb s.first t.first) (λ e. differs (ltb-true s.first t.first e) t.first_below)
      (λ e. same_first n s t (first-same n i j lt s t (ltb-false s.first t.first e)) lt
      (λ a b. smaller-of n s.rest t.rest a b)))
    where
      -- The first letter of the later one is not before that of the earlier one.
      first-same : (n i j : ℕ) → i < j → (s : Split letters (of_length letters n) i) (t : Split letters (of_length letters n) j)
          → t.first ≤ s.first
          → s.first ≡ t.first
      first-same n i j lt s t le =
          let m = length (of_length letters n) in
          either (ltb t.first s.first)
          (λ e. absurd (omega (
            arith,
            s.whole,
            t.whole,
            t.rest_below,
            suc-mul t.first m,
            mul-le-mul_right m (ltb-true t.first s.first e),
          )))
          (λ e. omega (arith, ltb-false t.first s.first e))

      same_first : (n : ℕ) {i j : ℕ} (s : Split letters (of_length letters n) i) (t : Split letters (of_length letters n) j)
          → s.first ≡ t.first → i < j
          → (s.rest < t.rest → t.rest < length (of_length letters n)
          → Smaller letters (get_or (of_length letters n) s.rest []) (get_or (of_length letters n) t.rest []))
          → Smaller letters (get_or letters s.first 0 ∷ get_or (of_length letters n) s.rest [])
          (get_or letters t.first 0 ∷ get_or (of_length letters n) t.rest [])
      same_first n s t e lt inner =
          let m = length (of_length letters n) in
          rw e (agrees (inner (omega (arith, s.whole, t.whole, ap (λ (q : ℕ). q * m) e)) t.rest_below))

  -- AND BY THE LETTERS FROM THE LEFT: of two lists of one length, the one at the lower position is smaller at the first difference.
  pub smaller-first : (n i j : ℕ) → i < j → j < length (up_to letters n)
      → length (get_or (up_to letters n) i []) ≡ length (get_or (up_to letters n) j [])
      → Smaller letters (get_or (up_to letters n) i []) (get_or (up_to letters n) j [])
  smaller-first n i j lt h same =
      let s = standing n i (omega arith) in
      let t = standing n j h in
      let long : s.long ≡ t.long = sym (length_up n i s) ∙ (same ∙ length_up n j t) in
      let further : s.left < t.left = omega (arith, s.whole, t.whole, ap (powers (length letters)) long) in
      rw (stands n i s, stands n j t, long) (smaller-of t.long s.left t.left further t.below)

-- ---- Each one time

heads : {A : Type 0} {a b : A} {l m : List A} → a ∷ l ≡ b ∷ m → (a ≡ b) × (l ≡ m)
heads e = (cc, cc)

-- No list stands at two positions among these.
abbrev Once : List (List ℕ) → Type 0
Once ls = (i j : ℕ) → i < length ls → j < length ls → get_or ls i [] ≡ get_or ls j [] → i ≡ j

module _ (letters : List ℕ) (distinct : Distinct letters) where
  once-before : (ls : List (List ℕ)) → Once ls → Once (before letters ls)
  once-before ls once i j hi hj e =
      let s = split letters ls i hi in
      let t = split letters ls j hj in
      let parts = heads (sym s.is ∙ (e ∙ t.is)) in
      let first : s.first ≡ t.first = distinct s.first t.first s.first_below t.first_below parts.0 in
      let rest : s.rest ≡ t.rest = once s.rest t.rest s.rest_below t.rest_below parts.1 in
      s.whole ∙ (rw (first, rest) (sym t.whole))

  once-of : (n : ℕ) → Once (of_length letters n)
  unfolding of_length
  once-of zero i j hi hj e = omega arith
  once-of (suc n) i j hi hj e = once-before (of_length letters n) (once-of n) i j hi hj e

  once-up : (n : ℕ) → Once (up_to letters n)
  once-up n i j hi hj e =
      let s = standing letters n i hi in
      let t = standing letters n j hj in
      let long : t.long ≡ s.long = sym (length_up letters n j t) ∙ (ap length (sym e) ∙ length_up letters n i s) in
      let left : t.left ≡ s.left =
      once-of s.long t.left s.left (rw long at t.below) s.below
      (rw long at (sym (stands letters n j t)) ∙ (sym e ∙ stands letters n i s))
      in
      s.whole ∙ (rw (← long, ← left) (sym t.whole))

-- EACH LIST ONCE: none stands at two positions below the count.
pub once : (letters : List ℕ) (n : ℕ) → is_alphabet letters ≡ true → (i j : ℕ) → i < length (up_to letters n) → j < length (up_to letters n)
    → get_or (up_to letters n) i [] ≡ get_or (up_to letters n) j []
    → i ≡ j
once letters n is = once-up letters (apart letters (alphabet letters is).different) n

-- The same of the lists of tokens.
same-operators : (i : ℕ) (l m : List ℕ) → tokens_from i l ≡ tokens_from i m → l ≡ m
unfolding tokens_from
same-operators i [] [] e = refl
same-operators i [] (b ∷ m) e = absurd (let z : ◌≡◌ {A = ℕ} 0 1 = cc in omega arith)
same-operators i (a ∷ l) [] e = absurd (let z : ◌≡◌ {A = ℕ} 0 1 = cc in omega arith)
same-operators i (a ∷ l) (b ∷ m) e =
    let parts = heads e in
    let first : a ≡ b = ap (λ (k : Token). k.op) parts.0 in
    rw (first, same-operators (i + 1) l m parts.1) refl

pub once-listed : (letters : List ℕ) (n : ℕ) → is_alphabet letters ≡ true → (i j : ℕ) → i < length (up_to letters n)
    → j < length (up_to letters n)
    → list_at letters n i ≡ list_at letters n j
    → i ≡ j
unfolding list_at
once-listed letters n is i j hi hj e =
    once letters n is i j hi hj (same-operators 0 (get_or (up_to letters n) i []) (get_or (up_to letters n) j []) e)

-- ---- Every list, and no other

module _ (letters : List ℕ) where
  stands-before : (a : ℕ) (l : List ℕ) (ls : List (List ℕ)) → Occurs letters a → Stands ls l → Stands (before letters ls) (a ∷ l)
  stands-before a l ls o s =
      let q = o.index in
      let r = s.position in
      let n = length ls in
      let room : q * n + n ≤ length letters * n = omega (arith, suc-mul q n, mul-le-mul_right n o.below) in
      record {
        position = q * n + r;
        below = let h = s.below in omega (arith, length_before letters ls);
        is = at_before letters ls q r (q * n + r) refl o.below s.below ∙ rw (o.is, s.is) refl;
      }

  stands_of : (l : List ℕ) → are_letters letters l ≡ true → Stands (of_length letters (length l)) l
  unfolding of_length are_letters
  stands_of [] are = record { position = 0; below = omega arith; is = refl }
  stands_of (a ∷ l) are =
      let parts = both (among a letters) (are_letters letters l) are in
      stands-before a l (of_length letters (length l)) (occurs a letters parts.0) (stands_of l parts.1)

  -- EVERY LIST of the letters, of at most n, stands at a position below the count.
  pub every : (l : List ℕ) (n : ℕ) → are_letters letters l ≡ true → length l ≤ n → Stands (up_to letters n) l
  unfolding powers
  every l n are short =
      let s = stands_of l are in
      let h = s.below in
      let i = powers (length letters) (length l) + s.position in
      record {
        position = i;
        below = still-below letters (length l) n i short (omega (arith, counts letters (length l), length-of letters (length l)));
        is = at_length letters (length l) n i s.position short h refl ∙ s.is;
      }

  letters-of : (n i : ℕ) → i < length (of_length letters n) → are_letters letters (get_or (of_length letters n) i []) ≡ true
  unfolding of_length are_letters
  letters-of zero zero h = refl
  letters-of zero (suc i) h = absurd (omega arith)
  letters-of (suc n) i h =
      let s = split letters (of_length letters n) i h in
      rw (s.is, are_letters, among-at letters s.first s.first_below) (letters-of n s.rest s.rest_below)

  -- NO OTHER LIST stands below the count.
  pub only : (n i : ℕ) → i < length (up_to letters n)
      → (are_letters letters (get_or (up_to letters n) i []) ≡ true) × (length (get_or (up_to letters n) i []) ≤ n)
  only n i h =
      let s = standing letters n i h in (
        ap (are_letters letters) (stands letters n i s) ∙ letters-of s.long s.left s.below,
        omega (arith, length_up letters n i s, s.short),
      )
