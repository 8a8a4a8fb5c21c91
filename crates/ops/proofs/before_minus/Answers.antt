-- `ops::before_minus` meets its contract: the numbers of each arm, by range or one by one. Assumes nothing.
use mathlib.Core.{Logic.{⊎_elim}, List.{[], ◌∷◌}}
use native.Mathlib.Omega.{arith}
use Rattle.molang.specs.Operator.{negate, logical_not, assignment, add, div, mul, continue, expression_array, any, is_one_of, before_minus}
use Rattle.ops.proofs.{OperatorLaws.{Single, none_of, operator-at, operand-apart}}
use Rattle.ops.proofs.before_minus.Goals as goal
use types.Run.{OneOf}
use Prim.Native.Nat.{ℕ}
use mathlib.Core.Path.{◌≡◌}

-- What is left after the arms of single numbers.
single : {N : Type 0} (op : ℕ)
    → ((((N × (op ≡ negate → ⊥)) × (OneOf (continue ∷ expression_array ∷ []) op → ⊥)) × (op ≡ logical_not → ⊥)) × (OneOf (add ∷ div ∷ mul ∷ []) op → ⊥)) × (op ≡ assignment → ⊥)
    → Single op
single op r =
    let unknown = none_of (continue ∷ expression_array ∷ []) op r.0.0.0.1 in
    let arithmetic = none_of (add ∷ div ∷ mul ∷ []) op r.0.1 in
    ((r.0.0.0.0.1, unknown), (r.0.0.1, arithmetic), (r.1, tt))

pub returns-in-9 : goal.returns-in-9
returns-in-9 c = unfold any is_one_of before_minus in ⊎_elim (λ e. rw e) (⊎_elim (λ e. rw e) (λ e. rw e)) c.in-9.is

pub returns-in-67 : goal.returns-in-67
unfolding any is_one_of before_minus
returns-in-67 c = operator-at 67 3 tt c.args.op (omega arith) (omega arith)

pub returns-in_default-2 : goal.returns-in_default-2
returns-in_default-2 c = operand-apart c.args.op (single c.args.op c.in_default.in_default-own.rest) (omega arith)

pub returns-in_default-3 : goal.returns-in_default-3
returns-in_default-3 c = operand-apart c.args.op (single c.args.op c.in_default.in_default-own.rest) (omega arith)

pub returns-in_default-4 : goal.returns-in_default-4
returns-in_default-4 c =
    operand-apart c.args.op (single c.args.op c.in_default.in_default-own.rest) (omega arith)

pub returns-in-71-2 : goal.returns-in-71-2
unfolding any is_one_of before_minus
returns-in-71-2 c = operator-at 73 3 tt c.args.op (omega arith) (omega arith)

pub returns-in-0-2 : goal.returns-in-0-2
returns-in-0-2 c = unfold any is_one_of before_minus in operator-at 0 2 tt c.args.op (omega arith) (omega arith)

pub returns-in-6 : goal.returns-in-6
returns-in-6 c =
    unfold any is_one_of before_minus in rw c.in-6.is

pub returns-in-70 : goal.returns-in-70
returns-in-70 c =
    unfold any is_one_of before_minus in ⊎_elim (λ e. rw e) (λ e. rw e) c.in-70.is

pub returns-in-50-to-60 : goal.returns-in-50-to-60
returns-in-50-to-60 c =
    unfold any is_one_of before_minus in operator-at 50 11 tt c.args.op (omega arith) (omega arith)

pub returns-in_default : goal.returns-in_default
returns-in_default c =
    operand-apart c.args.op (single c.args.op c.in_default.in_default-own.rest) (omega arith)

pub returns-in-71 : goal.returns-in-71
returns-in-71 c =
    unfold any is_one_of before_minus in rw c.in-71.is

pub returns-in-0 : goal.returns-in-0
returns-in-0 c =
    unfold any is_one_of before_minus in rw c.in-0.is
