-- What each case of the checks' answers means: document 01's answer number for a word, and the number and place for a token.
use Rattle.std.specs.Prelude.{ℕ, ◌%◌, ◌^◌, ◌≤◌, ◌≡◌, ⊤, Result, Ok, Err}
use Rattle.std.proofs.Math.Option.{Option, none, some}
use Rattle.molang.specs.Words.{operator_field, upper_field, lower_field, word_fault, Refusal}
use Rattle.words.specs.Fields.{operator_of, variant_of}
use Rattle.words.specs.Refusals.{reason_number, refusal_row}
use Rattle.words.specs.declared.refusals.Reason.{Reason}
use Rattle.words.specs.declared.refusals.Refusal as code

-- The answer to a word.
abbrev pub number_of : Result ⊤ Reason → Option ℕ
number_of (Ok _) = none
number_of (Err reason) = some (reason_number reason)

-- The answer to a token.
abbrev pub refusal_of : Result ⊤ code.Refusal → Option Refusal
refusal_of (Ok _) = none
refusal_of (Err r) = some (refusal_row r)

-- A legal word of kind 1 whose operator is its low byte: no host's number.
pub record LowOperator (w : ℕ) : Type 0 where
  pub legal : none ≡ word_fault operator_field 0 w
  pub number : operator_of w ≡ w % 2 ^ 8
  pub last : w % 2 ^ 8 ≤ 110

-- The words of both halves of a payload value are legal in a token of this first word.
pub record HalfWords (operator u l : ℕ) : Type 0 where
  pub upper : none ≡ word_fault upper_field (variant_of operator) u
  pub lower : none ≡ word_fault lower_field (variant_of operator) l
