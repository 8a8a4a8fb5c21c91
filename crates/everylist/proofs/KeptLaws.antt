-- Where an input is turned back by what is kept of it, test by test, and what one that is not turned back keeps to.
use Prim.Native.Nat.{ℕ, zero, suc, ◌-◌, ◌/◌, ◌%◌, ◌^◌, ◌≤◌, ◌<◌, min}
use mathlib.Core.{Path.{◌≡◌, refl, ap, sym, ◌∙◌}, Bool.{Bool, true, false, ◌&&◌}, List.{List, [], ◌∷◌}, Option.{Option, none, some}}
use native.Mathlib.Omega.{arith}
use lib.{Dec.{eqb, leb}, ListN.{length, take, drop, get_or}, Seq.{take_all, take-nil}}
use borrow.Author.Tests.{eq-eqb, ne_eqb, le-leb, lt-leb, eqb-true, leb-true, leb-false, ltb-true}
use Rattle.molang.specs.{FirstFailure.{must, first_of}, Words.{Refusal, row}}
use Rattle.molang.proofs.{Booleans.{either}, FirstFailure.{passed, last_one}, Trees.{both}}
use Rattle.shortlists.specs.{ShortLists.{up_to, is_alphabet, count_refusal}, Answers.{refused, told, count_told}}
use Rattle.everylist.specs.{EveryList.{is_number, all_numbers}, Steps.{kept, kept_words, kept_fault}}

-- PARTS OF ELEVEN WORDS. The code takes no more than there are.
front-least : (m : ℕ) (words : List ℕ) → length words ≡ 11 → take (min m 11) words ≡ take m words
front-least m words size =
    either (leb m 11)
    (λ e.
    let same : min m 11 ≡ m = omega (arith, leb-true m 11 e) in ap (λ (n : ℕ). take n words) same)
    (λ e.
    let all : min m 11 ≡ 11 = omega (arith, leb-false m 11 e) in
    ap (λ (n : ℕ). take n words) all
    ∙ (take_all 11 words (omega arith) ∙ sym (take_all m words (omega (arith, leb-false m 11 e)))))

drop-take : (m : ℕ) (l : List ℕ) → take (m - 2) (drop 2 l) ≡ drop 2 (take m l)
drop-take zero l = refl
drop-take (suc zero) [] = refl
drop-take (suc zero) (a ∷ []) = refl
drop-take (suc zero) (a ∷ b ∷ l) = refl
drop-take (suc (suc m)) [] = take-nil (suc (suc m) - 2)
drop-take (suc (suc m)) (a ∷ []) = take-nil (suc (suc m) - 2)
drop-take (suc (suc m)) (a ∷ b ∷ l) = let same : suc (suc m) - 2 ≡ m = omega arith in rw same refl

pub front_same : (n m : ℕ) (words : List ℕ) → n ≡ min m 11 → length words ≡ 11 → take n words ≡ take m words
front_same n m words e size = ap (λ (n : ℕ). take n words) e ∙ front-least m words size

pub letters-same : (n m : ℕ) (words : List ℕ) → n ≡ min m 11 → length words ≡ 11 → take (n - 2) (drop 2 words) ≡ drop 2 (take m words)
letters-same n m words e size = drop-take n words ∙ ap (drop 2) (front_same n m words e size)

-- What the code finds of the numbers of those that are kept.
pub looked : (n m : ℕ) (words : List ℕ) (r : Bool) → n ≡ min m 11 → length words ≡ 11 → r ≡ all_numbers (take n words)
    → r ≡ all_numbers (take m words)
looked n m words r e size told = told ∙ ap all_numbers (front_same n m words e size)

-- WHERE IT IS TURNED BACK
module _ (bytes : ℕ) (words : List ℕ) (fine : Bool) where
  pub not-whole : (bytes % 4 ≡ 0 → ⊥) → some (row 1 0) ≡ kept_fault (kept bytes words fine)
  not-whole h = unfold kept_fault must first_of in rw (ne_eqb (bytes % 4) 0 h) refl

  -- Whole words: two tests are left.
  pub two-tests : (t : Bool) (o : Option Refusal) → bytes % 4 ≡ 0
      → (leb 8 bytes && (all_numbers (take (bytes / 4) words) && fine)) ≡ t
      → (t ≡ true → count_refusal (drop 2 (take (bytes / 4) words)) (get_or words 1 0) ≡ o)
      → kept_fault (kept bytes words fine) ≡ first_of (must t (row 8 0) ∷ o ∷ [])
  unfolding kept_fault kept_words must first_of
  two-tests true o whole e f = rw (eq-eqb (bytes % 4) 0 whole, e, f refl) refl
  two-tests false o whole e f = rw (eq-eqb (bytes % 4) 0 whole, e) refl

  faulty : bytes % 4 ≡ 0 → (leb 8 bytes && (all_numbers (take (bytes / 4) words) && fine)) ≡ false
      → some (row 8 0) ≡ kept_fault (kept bytes words fine)
  faulty whole e = unfold must first_of in sym (two-tests false none whole e (λ t. absurd (let z : ◌≡◌ {A = ℕ} 0 1 = cc in omega arith)))

  pub too_short : bytes % 4 ≡ 0 → bytes < 8 → some (row 8 0) ≡ kept_fault (kept bytes words fine)
  too_short whole h = faulty whole (rw (lt-leb 8 bytes h) refl)

  module _ (whole : bytes % 4 ≡ 0) (enough : 8 ≤ bytes) where
    pub no_number : all_numbers (take (bytes / 4) words) ≡ false → some (row 8 0) ≡ kept_fault (kept bytes words fine)
    no_number h = faulty whole (rw (le-leb 8 bytes enough, h) refl)

    module _ (numbers : all_numbers (take (bytes / 4) words) ≡ true) where
      pub not-fine : fine ≡ false → some (row 8 0) ≡ kept_fault (kept bytes words fine)
      not-fine h = faulty whole (rw (le-leb 8 bytes enough, numbers, h) refl)

      pub counted-so : fine ≡ true → (o : Option Refusal) → count_refusal (drop 2 (take (bytes / 4) words)) (get_or words 1 0) ≡ o
          → o ≡ kept_fault (kept bytes words fine)
      unfolding must first_of
      counted-so h o e =
          sym (two-tests true o whole (rw (le-leb 8 bytes enough, numbers, h) refl) (λ t. e) ∙ last_one o)

-- What `count` tells of where it turns a call back; the place is 0.
pub count-refused : (letters : List ℕ) (n number : ℕ) → refused number ≡ count_told letters n → count_refusal letters n ≡ some (row number 0)
unfolding count_told told count_refusal must first_of
count-refused letters n number e = by (is_alphabet letters) (leb n 6) e
  where
    by : (a b : Bool) → refused number ≡ told (first_of (must a (row 19 0) ∷ must b (row 20 0) ∷ [])) (length (up_to letters n))
        → first_of (must a (row 19 0) ∷ must b (row 20 0) ∷ []) ≡ some (row number 0)
    by true true e = absurd (let z : ◌≡◌ {A = ℕ} 0 1 = cc in omega arith)
    by true false e = let same : number ≡ 20 = cc in rw same refl
    by false b e = let same : number ≡ 19 = cc in rw same refl

-- AN INPUT THAT IS NOT TURNED BACK
pub record Unturned (bytes : ℕ) (words : List ℕ) (fine : Bool) : Type 0 where
  pub whole : bytes % 4 ≡ 0
  pub enough : 8 ≤ bytes
  pub numbers : all_numbers (take (bytes / 4) words) ≡ true
  pub rest : fine ≡ true
  pub alphabet : is_alphabet (drop 2 (take (bytes / 4) words)) ≡ true
  pub short : get_or words 1 0 ≤ 6

pub unturned : (bytes : ℕ) (words : List ℕ) (fine : Bool) → kept_fault (kept bytes words fine) ≡ none → Unturned bytes words fine
unfolding kept_fault kept_words count_refusal
unturned bytes words fine e =
    let letters = drop 2 (take (bytes / 4) words) in
    let n = get_or words 1 0 in
    let first = passed (eqb (bytes % 4) 0) (row 1 0) _ e in
    let second = passed (leb 8 bytes && (all_numbers (take (bytes / 4) words) && fine)) (row 8 0) _ first.1 in
    let tests = both (leb 8 bytes) _ second.0 in
    let words-tests = both (all_numbers (take (bytes / 4) words)) fine tests.1 in
    let counted = sym (last_one (count_refusal letters n)) ∙ second.1 in
    let third = passed (is_alphabet letters) (row 19 0) (must (leb n 6) (row 20 0) ∷ []) counted in
    let fourth = passed (leb n 6) (row 20 0) [] third.1 in
    record {
      whole = eqb-true (bytes % 4) 0 first.0;
      enough = leb-true 8 bytes tests.0;
      numbers = words-tests.0;
      rest = words-tests.1;
      alphabet = third.0;
      short = leb-true n 6 fourth.0;
    }

-- Its version is one of sixteen bits.
pub version-bits : (m : ℕ) (words : List ℕ) → all_numbers (take m words) ≡ true → 1 ≤ m → 1 ≤ length words → get_or words 0 0 < 2 ^ 16
unfolding all_numbers is_number
version-bits m [] e one h = absurd (omega arith)
version-bits zero (w ∷ words) e one h = absurd (omega arith)
version-bits (suc m) (w ∷ words) e one h = ltb-true w (2 ^ 16) (both (is_number w) _ e).0
