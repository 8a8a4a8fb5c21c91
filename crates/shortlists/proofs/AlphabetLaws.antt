-- The letters of an alphabet: what its tests say of the letter at an index, and the tests as the code makes them.
-- Assumes nothing.
use Prim.Native.Nat.{ℕ, zero, suc, ◌+◌, ◌-◌, ◌≤◌, ◌<◌}
use mathlib.Core.{Path.{◌≡◌, refl, ap, sym, ◌∙◌}, Bool.{Bool, true, false, not, ◌||◌, true≢false, false≢true}, List.{List, [], ◌∷◌}}
use native.Mathlib.Omega.{arith}
use lib.{Dec.{eqb, leb}, ListN.{length, get_or, take, drop}}
use borrow.Author.Tests.{leb-true, eqb-true, eq-eqb, not-true}
use Rattle.std.specs.List.{list_any, list_all}
use Rattle.std.proofs.lemmas.{List.{drop_more, drop_all, take_rest}, Bool.Decides.{nat_tests}}
use Rattle.molang.{specs.Operator.{is_operator}, proofs.Booleans.{or-first, or-second}, proofs.Trees.{both}}
use Rattle.shortlists.specs.ShortLists.{among, different, each_legal, is_alphabet}

-- What an alphabet is, test by test.
pub record Alphabet (letters : List ℕ) : Type 0 where
  pub some : 1 ≤ length letters
  pub few : length letters ≤ 8
  pub different : different letters ≡ true
  pub legal : each_legal letters ≡ true

pub alphabet : (letters : List ℕ) → is_alphabet letters ≡ true → Alphabet letters
unfolding is_alphabet
alphabet letters is =
    let one = both (leb 1 (length letters)) _ is in
    let two = both (leb (length letters) 8) _ one.1 in
    let three = both (different letters) _ two.1 in
    record {
      some = leb-true 1 (length letters) one.0;
      few = leb-true (length letters) 8 two.0;
      different = three.0;
      legal = three.1;
    }

-- ---- A letter's index

pub among-at : (letters : List ℕ) (i : ℕ) → i < length letters → among (get_or letters i 0) letters ≡ true
unfolding among
among-at [] i h = absurd (omega arith)
among-at (a ∷ letters) zero h = or-first (eqb a a) _ (eq-eqb a a refl)
among-at (a ∷ letters) (suc i) h = or-second (eqb (get_or letters i 0) a) _ (among-at letters i (omega arith))

-- A letter stands at an index.
pub record Occurs (letters : List ℕ) (a : ℕ) : Type 0 where
  pub index : ℕ
  pub below : index < length letters
  pub is : get_or letters index 0 ≡ a

pub occurs : (a : ℕ) (letters : List ℕ) → among a letters ≡ true → Occurs letters a
unfolding among
occurs a [] h = absurd (false≢true h)
occurs a (b ∷ letters) h = by (eqb a b) refl (occurs a letters) h
  where
    by : (t : Bool) → eqb a b ≡ t → (among a letters ≡ true → Occurs letters a) → (t || among a letters) ≡ true → Occurs (b ∷ letters) a
    by true e later h = record { index = 0; below = omega arith; is = sym (eqb-true a b e) }
    by false e later h =
        let o = later h in
        record { index = suc o.index; below = let w = o.below in omega arith; is = o.is }

-- No letter stands at two indices.
abbrev pub Distinct : List ℕ → Type 0
Distinct letters = (i j : ℕ) → i < length letters → j < length letters → get_or letters i 0 ≡ get_or letters j 0 → i ≡ j

-- A first letter that stands again is not different.
again : (a : ℕ) (letters : List ℕ) → different (a ∷ letters) ≡ true → (j : ℕ) → j < length letters → a ≡ get_or letters j 0 → ⊥
unfolding different
again a letters d j h e =
    let never = not-true (among a letters) (both (not (among a letters)) _ d).0 in
    true≢false (sym (ap (λ (b : ℕ). among b letters) e ∙ among-at letters j h) ∙ never)

pub apart : (letters : List ℕ) → different letters ≡ true → Distinct letters
unfolding different
apart [] d i j hi hj e = absurd (omega arith)
apart (a ∷ letters) d zero zero hi hj e = refl
apart (a ∷ letters) d zero (suc j) hi hj e = absurd (again a letters d j (omega arith) e)
apart (a ∷ letters) d (suc i) zero hi hj e = absurd (again a letters d i (omega arith) (sym e))
apart (a ∷ letters) d (suc i) (suc j) hi hj e =
    ap suc (apart letters (both (not (among a letters)) _ d).1 i j (omega arith) (omega arith) e)

pub legal-at : (letters : List ℕ) → each_legal letters ≡ true → (i : ℕ) → i < length letters → is_operator (get_or letters i 0) ≡ true
unfolding each_legal
legal-at [] legal i h = absurd (omega arith)
legal-at (a ∷ letters) legal zero h = (both (is_operator a) _ legal).0
legal-at (a ∷ letters) legal (suc i) h = legal-at letters (both (is_operator a) _ legal).1 i (omega arith)

-- ---- What the code's tests say

-- The library's `contains` and `all` are the definition's tests.
among-any : (a : ℕ) (letters : List ℕ) → list_any (λ (b : ℕ). eqb b a) letters ≡ among a letters
unfolding among
among-any a [] = refl
among-any a (b ∷ letters) = rw (among-any a letters, same-either-way a b) refl
  where
    same-either-way : (a b : ℕ) → eqb b a ≡ eqb a b
    same-either-way a b = grind (arith, nat_tests)

pub legal-all : (letters : List ℕ) → list_all is_operator letters ≡ each_legal letters
unfolding each_legal
legal-all [] = refl
legal-all (a ∷ letters) = rw (legal-all letters) refl

-- What `contains` says of a letter and those behind it.
pub among-told : (letters : List ℕ) (i : ℕ) (r : Bool)
    → r ≡ list_any (λ (b : ℕ). eqb b (get_or letters i 0)) (take (length letters - (i + 1)) (drop (i + 1) letters))
    → r ≡ among (get_or letters i 0) (drop (i + 1) letters)
among-told letters i r told = (rw (take_rest letters (i + 1)) at told) ∙ among-any (get_or letters i 0) (drop (i + 1) letters)

-- From a letter on: it occurs again, or what is left decides.
module _ (letters : List ℕ) (i : ℕ) (h : i < length letters) where
  pub different-here : among (get_or letters i 0) (drop (i + 1) letters) ≡ true → different (drop i letters) ≡ false
  different-here e = unfold different in rw (drop_more letters i 0 h, e) refl

  pub different-later : among (get_or letters i 0) (drop (i + 1) letters) ≡ false
      → different (drop i letters) ≡ different (drop (i + 1) letters)
  different-later e = unfold different in rw (drop_more letters i 0 h, e) refl

-- No letter is left.
pub different-none : (letters : List ℕ) (i : ℕ) → length letters ≤ i → different (drop i letters) ≡ true
different-none letters i h = unfold different in rw (drop_all i letters h) refl
