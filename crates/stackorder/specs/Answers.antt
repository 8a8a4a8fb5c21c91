-- What export and import answer, in the code's terms: the definition's answer for each case, why a call is turned back, and a call by its
-- two lists.
use Rattle.std.specs.Prelude.{ℕ, List, ⊤, Result, Ok, Err}
use Rattle.std.proofs.Math.Option.{Option, none, some}
use Rattle.molang.specs.Words as definition
use Rattle.molang.specs.StackOrder.{ReorderCall, ReorderTold, reordered, not_reordered}
use Rattle.words.specs.Refusals.{reason_number, refusal_row}
use Rattle.words.specs.declared.refusals.Refusal.{Refusal}

-- The answer of either entry.
abbrev pub told_of : Result ℕ Refusal → ReorderTold
told_of (Ok count) = reordered count
told_of (Err r) = not_reordered (reason_number r.reason) r.place

-- Why a call is turned back, if it is.
abbrev pub refusal_in : Result ⊤ Refusal → Option definition.Refusal
refusal_in (Ok done) = none
refusal_in (Err r) = some (refusal_row r)

-- A call of either entry.
abbrev pub call : List ℕ → List ℕ → ReorderCall
call words output = record { words = words; output = output }
