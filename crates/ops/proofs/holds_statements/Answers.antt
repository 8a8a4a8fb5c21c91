-- `ops::holds_statements` meets its contract: each operator that is entered, and the numbers below and above. Assumes nothing.
use mathlib.Core.{List.{[], ◌∷◌}, Logic.{⊎_elim}}
use native.Mathlib.Omega.{arith}
use Rattle.molang.specs.{Operator.{left_brace, left_parenthesis, any, is_one_of}, Statements.{is_entered}}
use Rattle.ops.proofs.{OperatorLaws.{none_of, apart, true-at}}
use Rattle.ops.proofs.holds_statements.Goals as goal

pub returns-in_default : goal.returns-in_default
unfolding is_entered
returns-in_default c =
    let op = c.args.op in
    let keys = none_of (left_brace ∷ left_parenthesis ∷ []) op c.in_default.in_default-own.rest.1 in
    apart _ op (omega arith)

pub returns-in_default-2 : goal.returns-in_default-2
unfolding is_entered
returns-in_default-2 c =
    let op = c.args.op in
    let keys = none_of (left_brace ∷ left_parenthesis ∷ []) op c.in_default.in_default-own.rest.1 in
    apart _ op (omega arith)

pub returns-in-0-2 : goal.returns-in-0-2
returns-in-0-2 c = unfold any is_one_of is_entered in true-at is_entered 67 2 tt c.args.op (omega arith) (omega arith)

pub returns-in-0 : goal.returns-in-0
returns-in-0 c =
    unfold any is_one_of is_entered in ⊎_elim (λ e. rw e) (λ e. rw e) c.in-0.is
