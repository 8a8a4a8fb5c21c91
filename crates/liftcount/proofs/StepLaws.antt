-- A word and a byte of the input, by the tests of the code. Assumes nothing.
use Prim.Native.Nat.{ℕ, ◌+◌, ◌*◌, ◌/◌, ◌≤◌, ◌<◌}
use mathlib.Core.{Path.{◌≡◌, refl, ap, sym, ◌∙◌}, Bool.{true, false}, List.{List}, Option.{Option, none, some}}
use lib.{IntN.{ℤ}, ListN.{length, take, set}, Seq.{set_out}}
use borrow.Author.Tests.{eq-eqb, ne_eqb, lt-ltb, le-ltb}
use Rattle.std.specs.Prelude.{Result, Ok, Err}
use Rattle.molang.specs.{Words.{Refusal, row, kind_of}, Lines.{version_of}}
use Rattle.liftcount.specs.{declared.run.Stage.TheVariants.{First, Second, Opener, InList}, declared.run.Counts.{Counts}}
use Rattle.liftcount.specs.{Counting.{opens, is_version}, Running.{State, more, open_fault, counted, reopened, version_taken, staged, word_taken, byte_taken}}
use Rattle.liftcount.specs.{Judging.{ended_by}, Steps.{at_stage, after_word, opened_after}}

-- THE VERSION that a word says
is-version : (w : ℕ) → w < 65536 → is_version w ≡ true
is-version w h = unfold is_version in lt-ltb w 65536 h

no-version : (w : ℕ) → 65536 ≤ w → is_version w ≡ false
no-version w h = unfold is_version in le-ltb w 65536 h

pub version-said : (w : ℕ) {v : ℤ} → w < 65536 → v ≡ version_of w → Ok v ≡ version_taken w
version-said w h e = unfold version_taken in rw (is-version w h, version_taken) (ap Ok e)

pub version-fault : (w : ℕ) → 65536 ≤ w → Err (row 8 0) ≡ version_taken w
version-fault w h = unfold version_taken in rw (no-version w h, version_taken) refl

module _ (counts : Counts) (list : List ℕ) (w : ℕ) where
  -- THE FIRST THREE WORDS
  pub first-leads : {version : Result ℤ Refusal} → version ≡ version_taken w
      → at_stage (staged Second version) counts list ≡ word_taken (Ok First) counts list w
  first-leads e = unfold word_taken in ap (λ (v : Result ℤ Refusal). at_stage (staged Second v) counts list) e

  pub second-leads : (from : ℤ) {version : Result ℤ Refusal} → version ≡ version_taken w
      → at_stage (staged (Opener from) version) counts list ≡ word_taken (Ok (Second from)) counts list w
  second-leads from e = unfold word_taken in ap (λ (v : Result ℤ Refusal). at_stage (staged (Opener from) v) counts list) e

  pub third-opens : (from to : ℤ) → kind_of w ≡ 0
      → at_stage (Ok (InList from to 0)) counts list ≡ word_taken (Ok (Opener from to)) counts list w
  third-opens from to h = unfold word_taken opens in rw (eq-eqb (kind_of w) 0 h) refl

  pub third-fault : (from to : ℤ) → (kind_of w ≡ 0 → ⊥)
      → at_stage (Err (row 8 0)) counts list ≡ word_taken (Ok (Opener from to)) counts list w
  third-fault from to h = unfold word_taken opens in rw (ne_eqb (kind_of w) 0 h) refl

  -- AN OPEN LIST
  module _ (from to : ℤ) (words : ℕ) where
    pub keeps : (kind_of w ≡ 0 → ⊥)
        → at_stage (Ok (InList from to (more words))) counts (set list words w) ≡ word_taken (Ok (InList from to words)) counts list w
    keeps h = unfold word_taken opens in rw (ne_eqb (kind_of w) 0 h, word_taken) refl

    pub passes : length list ≤ words → (kind_of w ≡ 0 → ⊥)
        → at_stage (Ok (InList from to (more words))) counts list ≡ word_taken (Ok (InList from to words)) counts list w
    passes past h = ap (at_stage (Ok (InList from to (more words))) counts) (sym (set_out list words w past)) ∙ keeps h

    reopens-by : (fault : Option Refusal) → open_fault words list ≡ fault
        → opened_after (ended_by fault (counted from to (take words list) counts)) from to counts list ≡ reopened from to words counts list
    unfolding reopened ended_by
    reopens-by none e = rw (e, reopened) refl
    reopens-by (some r) e = rw (e, reopened) refl

    pub reopens : kind_of w ≡ 0
        → opened_after (ended_by (open_fault words list) (counted from to (take words list) counts)) from to counts list
        ≡ word_taken (Ok (InList from to words)) counts list w
    reopens h = unfold word_taken opens in rw (eq-eqb (kind_of w) 0 h, word_taken) (reopens-by (open_fault words list) refl)

-- A BYTE
module _ (s : State) (b : ℕ) where
  pub byte-held : s.held < 3
      → record { held = s.held + 1; partial = s.partial / 256 + b * 16777216; progress = s.progress } ≡ byte_taken s b
  byte-held h = unfold byte_taken in rw (lt-ltb s.held 3 h, byte_taken) refl

  pub byte-fourth : 3 ≤ s.held
      → after_word (word_taken s.progress.stage s.progress.counts s.progress.list (s.partial / 256 + b * 16777216))
      ≡ byte_taken s b
  byte-fourth h = unfold byte_taken in rw (le-ltb s.held 3 h, byte_taken) refl
