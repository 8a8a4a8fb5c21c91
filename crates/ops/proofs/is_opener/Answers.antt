-- `ops::is_opener` meets its contract: one of the three openers, or none of them. Assumes nothing.
use mathlib.Core.{List.{[], ◌∷◌}, Logic.{⊎_elim}}
use Rattle.molang.specs.Operator.{left_brace, left_bracket, left_parenthesis, closing_of}
use Rattle.ops.specs.Operators.{is_opener}
use Rattle.ops.proofs.{OperatorLaws.{none_of, no-closer}}
use Rattle.ops.proofs.is_opener.Goals as goal

pub returns-in_default : goal.returns-in_default
unfolding is_opener
returns-in_default c =
    let op = c.args.op in
    rw (no-closer op (none_of (left_brace ∷ left_bracket ∷ left_parenthesis ∷ []) op c.in_default.in_default-own.rest.1), is_opener)

pub returns-in-0 : goal.returns-in-0
returns-in-0 c =
    unfold closing_of is_opener in ⊎_elim (λ e. rw e) (⊎_elim (λ e. rw e) (λ e. rw e)) c.in-0.is
