-- The classes of operators: the bits of the table's entries, and the one test that says what a constant
-- of the code stands for. Assumes nothing.
use mathlib.Core.{Path.{◌≡◌, refl, sym, ap, ◌∙◌}, Bool.{Bool, true, false, not, ◌&&◌, ◌||◌, and-false}, List.{List, [], ◌∷◌, ◌++◌}}
use Prim.Native.Nat.{ℕ, zero, suc, ◌<◌, ◌≤◌}
use native.Mathlib.{Nat.{le_of_suc-le-suc, not-suc-le-zero}, Omega.{arith}}
use lib.{Dec.{T, leb, ltb, nleb→lt}, ListN.{get_or, drop, get_or-eq_default}}
use borrow.Author.Tests.{lt-ltb, le-ltb, leb-true, leb-false, ltb-true, ltb-false, ne_eqb}
use Rattle.molang.{specs.Operator.{any, is_one_of, is_query_or_loop}, proofs.OperatorNumbers.{no-math}}
use Rattle.ops.specs.Classes.{pass_classes, own_classes, in_class, bit_at, meets, up_to, class_word, class_table, entry_of}
use Rattle.ops.proofs.{OperatorLaws.{agree, agree_at, and_left, and_right}, BitLaws.{bit-zero, bits_of, none_below}}

-- ---- No class but the 25, and no operator above 110

class-below : (i n : ℕ) → 25 ≤ i → in_class i n ≡ false
unfolding in_class pass_classes own_classes
class-below i n high = ap (λ (f : ℕ → Bool). f n) (get_or-eq_default (pass_classes ++ own_classes) (λ (n : ℕ). false) high)

neither : (a b : Bool) → T (not (a || b)) → T (not a) × T (not b)
neither true b t = absurd t
neither false b t = (tt, t)

-- A test for some operators fails above all operators.
pub low-only : (os : List ℕ) → T (not (any (leb 111) os)) → (n : ℕ) → 110 < n → is_one_of os n ≡ false
unfolding any is_one_of
low-only [] t n high = refl
low-only (o ∷ os) t n high =
    let both = neither (leb 111 o) (any (leb 111) os) t in
    rw (ne_eqb n o (λ e. omega (arith, nleb→lt 111 o both.0))) (low-only os both.1 n high)

-- Each of the tests fails at n.
abbrev NoneAt : List (ℕ → Bool) → ℕ → Type 0
NoneAt [] n = Unit {0}
NoneAt (f ∷ fs) n = (f n ≡ false) × NoneAt fs n

none-at : (fs : List (ℕ → Bool)) (n : ℕ) → NoneAt fs n → (i : ℕ) → get_or fs i (λ (n : ℕ). false) n ≡ false
none-at [] n h i = refl
none-at (f ∷ fs) n h zero = h.0
none-at (f ∷ fs) n h (suc i) = none-at fs n h.1 i

no-class : (i n : ℕ) → 110 < n → in_class i n ≡ false
unfolding in_class pass_classes own_classes is_query_or_loop any
no-class i n high =
    let l : (os : List ℕ) → T (not (any (leb 111) os)) → is_one_of os n ≡ false = λ os t. low-only os t n high in
    let own : NoneAt own_classes n = (l _ tt, (l _ tt, (l _ tt, tt))) in
    let last : NoneAt (drop 16 (pass_classes ++ own_classes)) n =
    (l _ tt, (l _ tt, (l _ tt, (l _ tt, (l _ tt, (no-math n high, own)))))) in
    let middle : NoneAt (drop 8 (pass_classes ++ own_classes)) n =
    (l _ tt, (l _ tt, (l _ tt, (l _ tt, (l _ tt, (l _ tt, (l _ tt, (l _ tt, last)))))))) in
    none-at (pass_classes ++ own_classes) n
    (l _ tt, (l _ tt, (l _ tt, (l _ tt, (l _ tt, (l _ tt, (l _ tt, (l _ tt, middle))))))))
    i

-- ---- The bits of a leaf's classes

up-to : (k : ℕ) (f : ℕ → ℕ) (n : ℕ) → n < k → get_or (up_to k f) n 0 ≡ f n
unfolding up_to
up-to zero f n below = absurd (not-suc-le-zero below)
up-to (suc k) f zero below = refl
up-to (suc k) f (suc n) below = up-to k (λ i. f (suc i)) n (le_of_suc-le-suc below)

-- A test that passes only below k.
bounded : (k i : ℕ) (b : Bool) → (k ≤ i → b ≡ false) → (ltb i k && b) ≡ b
bounded k i b none = go (ltb i k) refl
  where
    go : (t : Bool) → ltb i k ≡ t → (t && b) ≡ b
    go true e = refl
    go false e = sym (none (ltb-false i k e))

-- The entry of any table, by whether the number is an operator's.
pub entry_at : (table : List ℕ) (n : ℕ) → n < 111 → get_or table n 0 ≡ entry_of table n
entry_at table n low = unfold entry_of in sym (ap (λ (t : Bool). elim t [ true ↦ get_or table n 0 | false ↦ 0 ]) (lt-ltb n 111 low))

pub entry_past : (table : List ℕ) (n : ℕ) → 111 ≤ n → 0 ≡ entry_of table n
entry_past table n high = unfold entry_of in sym (ap (λ (t : Bool). elim t [ true ↦ get_or table n 0 | false ↦ 0 ]) (le-ltb n 111 high))

-- An entry of the class table has every class that the operator is in, and a number that is no operator is in none.
pub entry-bits : (n i : ℕ) → bit_at (entry_of class_table n) i ≡ in_class i n
unfolding entry_of class_table class_word
entry-bits n i = go (ltb n 111) refl
  where
    go : (t : Bool) → ltb n 111 ≡ t → bit_at (elim t [ true ↦ get_or class_table n 0 | false ↦ 0 ]) i ≡ in_class i n
    go true e =
        rw (up-to 111 class_word n (ltb-true n 111 e))
        (bits_of (λ i. in_class i n) 25 i ∙ bounded 25 i (in_class i n) (class-below i n))
    go false e = rw (bit-zero i, no-class i n (ltb-false n 111 e))

-- ---- What a constant stands for

meets-none : (w n : ℕ) → 110 < n → meets w n ≡ false
unfolding meets
meets-none w n high =
    none_below 32 (λ i. bit_at w i && in_class i n) (λ i h. ap (λ (b : Bool). bit_at w i && b) (no-class i n high) ∙ and-false (bit_at w i))

-- One law for every constant: what the checker computes up to 110, under the definitions that the test computes, and that the test has no
-- number above.
pub stands-for : (w : ℕ) (test : ℕ → Bool) → T (agree (meets w) test 111) → ((n : ℕ) → 110 < n → test n ≡ false)
    → (n : ℕ) → meets w n ≡ test n
stands-for w test t none_above n = go (leb n 110) refl
  where
    go : (b : Bool) → leb n 110 ≡ b → meets w n ≡ test n
    go true e = agree_at (meets w) test 111 t n (omega (arith, leb-true n 110 e))
    go false e = let high = leb-false n 110 e in meets-none w n high ∙ sym (none_above n high)

-- A constant of the operators os, which it has below 111 and which are below 111.
abbrev pub stands_for_only : ℕ → List ℕ → Bool
stands_for_only w os = agree (meets w) (is_one_of os) 111 && not (any (leb 111) os)

pub stands-for-only : (w : ℕ) (os : List ℕ) → T (stands_for_only w os) → (n : ℕ) → meets w n ≡ is_one_of os n
stands-for-only w os t =
    let computed = agree (meets w) (is_one_of os) 111 in
    let low = not (any (leb 111) os) in
    stands-for w (is_one_of os) (and_left computed low t) (low-only os (and_right computed low t))
