-- `ops::takes_member` meets its contract: each operator that takes a member, and the numbers below and above. Assumes nothing.
use native.Mathlib.Omega.{arith}
use Rattle.molang.specs.Operator.{any, is_one_of, has_members}
use Rattle.ops.proofs.{OperatorLaws.{apart, true-at}}
use Rattle.ops.proofs.takes_member.Goals as goal

pub returns-in-40-2 : goal.returns-in-40-2
returns-in-40-2 c = unfold any is_one_of has_members in true-at has_members 42 4 tt c.args.op (omega arith) (omega arith)

pub returns-in_default : goal.returns-in_default
returns-in_default c =
    unfold has_members in apart _ c.args.op (omega arith)

pub returns-in_default-2 : goal.returns-in_default-2
returns-in_default-2 c =
    unfold has_members in apart _ c.args.op (omega arith)

pub returns-in-40 : goal.returns-in-40
returns-in-40 c =
    unfold any is_one_of has_members in rw c.in-40.is
