-- What is printed at the end of the input, by how the code ends. Assumes nothing.
use Prim.Native.Nat.{ℕ, ◌+◌, ◌≤◌}
use mathlib.Core.{Path.{◌≡◌, refl, sym, ap}, List.{List}, Option.{Option, none, some}}
use native.Mathlib.Omega.{arith}
use lib.{IntN.{ℤ}, ListN.{length, take}}
use borrow.Author.Tests.{eq-eqb, ne_eqb}
use Rattle.std.specs.Prelude.{Result, Ok}
use Rattle.molang.specs.Words.{Refusal}
use Rattle.text.{specs.Text.{numbered, Wrote}, proofs.TextLaws.{numbered-length}}
use Rattle.liftcount.specs.{declared.run.Stage.{Stage}, declared.run.Stage.TheVariants.{InList}, declared.run.Counts.{Counts}}
use Rattle.liftcount.specs.{Counting.{refusal_line}, Running.{State, open_fault, counted, progress_text, end_text}, Judging.{ended_by}}
use Rattle.liftcount.specs.Steps.{ending_text}

-- Bytes of a word that is not whole.
pub part-text : (s : State) → (s.held ≡ 0 → ⊥) → refusal_line 1 0 ≡ end_text s
part-text s h = unfold end_text in rw (ne_eqb s.held 0 h, end_text) refl

-- Whole words, by the stage that they came to.
pub whole-text : (s : State) (stage : Result Stage Refusal) → s.held ≡ 0 → s.progress.stage ≡ stage
    → progress_text stage s.progress.counts s.progress.list ≡ end_text s
unfolding end_text
whole-text s stage h e =
    rw (eq-eqb s.held 0 h, end_text) (ap (λ (g : Result Stage Refusal). progress_text g s.progress.counts s.progress.list) (sym e))

-- The open list ends.
module _ (from to : ℤ) (words : ℕ) (counts : Counts) (list : List ℕ) where
  closed-by : (fault : Option Refusal) → open_fault words list ≡ fault
      → ending_text (ended_by fault (counted from to (take words list) counts)) ≡ progress_text (Ok (InList from to words)) counts list
  unfolding progress_text ended_by
  closed-by none e = rw (e, progress_text) refl
  closed-by (some r) e = rw (e, progress_text) refl

  pub closed-text : ending_text (ended_by (open_fault words list) (counted from to (take words list) counts))
      ≡ progress_text (Ok (InList from to words)) counts list
  closed-text = closed-by (open_fault words list) refl

-- A number's line has at most 21 bytes.
pub number-ends : {a b : List ℕ} {at r : ℕ} (n : ℕ) → length b ≡ length a → Wrote a at (numbered n 10) r b
    → (r ≤ at + 21) × (length b ≡ length a)
number-ends n e w = (omega (arith, w.ends, numbered-length n 10), e)
