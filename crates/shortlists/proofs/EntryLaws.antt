-- What the entries tell, case by case: where each turns a call back, and the list where it does not. Assumes nothing.
use Prim.Native.Nat.{ℕ, ◌≤◌, ◌<◌}
use mathlib.Core.{Path.{◌≡◌, refl}, Bool.{true, false}, List.{List, [], ◌∷◌}, Option.{Option, none, some}}
use native.Mathlib.Omega.{arith}
use lib.{Dec.{leb}, ListN.{length, replicate}}
use borrow.Author.Tests.{leb-true, le-leb, lt-leb, lt-ltb, le-ltb}
use Rattle.molang.specs.{FirstFailure.{must, first_of}, Parse.{in_front}, Words.{Refusal, row, list_words}}
use Rattle.molang.proofs.FirstFailure.{passed, All, all_first, all-last, all-must}
use Rattle.shortlists.specs.ShortLists.{up_to, is_alphabet, count_refusal, list_refusal, list_at}
use Rattle.shortlists.specs.Answers.{found, refused, told, count_told, list_told, tokens_given, words_at}
use Rattle.shortlists.proofs.ShortLists.{longer}

module _ (letters : List ℕ) (n : ℕ) where
  -- The three answers of `count`.
  pub no-alphabet : is_alphabet letters ≡ false → refused 19 ≡ count_told letters n
  no-alphabet other = unfold count_told told count_refusal must first_of in rw other refl

  pub too_long : is_alphabet letters ≡ true → 6 < n → refused 20 ≡ count_told letters n
  too_long is long = unfold count_told told count_refusal must first_of in rw (is, lt-leb n 6 long) refl

  pub counted : is_alphabet letters ≡ true → n ≤ 6 → found (length (up_to letters n)) ≡ count_told letters n
  unfolding count_told told count_refusal must first_of
  counted is short = rw (is, le-leb n 6 short) refl

  -- What a count says of the call.
  pub record Counts (lists : ℕ) : Type 0 where
    pub alphabet : is_alphabet letters ≡ true
    pub short : n ≤ 6
    pub all : lists ≡ length (up_to letters n)
    pub unrefused : count_refusal letters n ≡ none

  pub counts-told : (lists : ℕ) → found lists ≡ count_told letters n → Counts lists
  unfolding count_told told count_refusal
  counts-told lists e = by (count_refusal letters n) refl e
    where
      by : (o : Option Refusal) → count_refusal letters n ≡ o → found lists ≡ told o (length (up_to letters n)) → Counts lists
      by none None-found e =
          let one = passed (is_alphabet letters) (row 19 0) (must (leb n 6) (row 20 0) ∷ []) None-found in
          let two = passed (leb n 6) (row 20 0) [] one.1 in
          record { alphabet = one.0; short = leb-true n 6 two.0; all = cc; unrefused = None-found }
      by (some r) some-found e = absurd (let z : ◌≡◌ {A = ℕ} 0 1 = cc in omega arith)

  module _ (position : ℕ) where
    -- Turned back as `count` is.
    pub refused-too : (number : ℕ) → refused number ≡ count_told letters n
        → (refused number ≡ list_told letters n position) × (replicate 30 0 ≡ words_at letters n position)
    unfolding count_told told list_told words_at tokens_given list_refusal first_of in_front list_words
    refused-too number e = by (count_refusal letters n) refl e
      where
        by : (o : Option Refusal) → count_refusal letters n ≡ o → refused number ≡ told o (length (up_to letters n))
            → (refused number ≡ list_told letters n position) × (replicate 30 0 ≡ words_at letters n position)
        by none e told = absurd (let z : ◌≡◌ {A = ℕ} 0 1 = cc in omega arith)
        by (some r) e told = (rw e told, rw e refl)

    -- No list stands there.
    pub past : count_refusal letters n ≡ none → length (up_to letters n) ≤ position
        → (refused 20 ≡ list_told letters n position) × (replicate 30 0 ≡ words_at letters n position)
    unfolding told list_told words_at tokens_given list_refusal must first_of in_front list_words
    past None-found above =
        let refuses = le-ltb position (length (up_to letters n)) above in (rw (None-found, refuses) refl, rw (None-found, refuses) refl)

    -- The list that stands there, among all of at most six letters.
    pub listed : count_refusal letters n ≡ none → n ≤ 6 → position < length (up_to letters n)
        → (found (length (list_at letters 6 position)) ≡ list_told letters n position)
        × (in_front (list_words (list_at letters 6 position)) (replicate 30 0) ≡ words_at letters n position)
    unfolding told list_told words_at tokens_given list_refusal must first_of list_at
    listed None-found short below =
        let same = longer letters n 6 position short below in
        let passes = lt-ltb position (length (up_to letters n)) below in
        (rw (None-found, passes, same) refl, rw (None-found, passes, same) refl)

-- ---- Places

abbrev AtZero : Refusal → Type 0
AtZero r = r.place ≡ 0

-- EVERY REFUSAL of both entries, 19 and 20, is at place 0.
pub count-place : (letters : List ℕ) (n : ℕ) → All AtZero (count_refusal letters n)
unfolding count_refusal
count-place letters n = all_first AtZero _ _ (all-must AtZero _ (row 19 0) refl) (all-last AtZero _ (all-must AtZero _ (row 20 0) refl))

pub list-place : (letters : List ℕ) (n position : ℕ) → All AtZero (list_refusal letters n position)
unfolding list_refusal
list-place letters n position =
    all_first AtZero _ _ (count-place letters n) (all-last AtZero _ (all-must AtZero _ (row 20 0) refl))
