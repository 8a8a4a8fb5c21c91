-- `finish`, arm by arm: the done trees as they stand, or what the level makes of them.
use native.Mathlib.Omega.{arith}
use Rattle.grouping.proofs.EndLaws.{gathered-ends, gathering-at, right-ends, finish-within, finish-at, ends_by}
use Rattle.grouping.proofs.driver.finish.Goals as goal
use borrow.Enum.Refused.{opened}

pub finish-requires : goal.finish-requires
finish-requires c =
    finish-at c.args.walk.list c.args.walk.pass _ c.in-Split.is c.requires

pub overflow_add-result : goal.overflow_add-result
overflow_add-result c =
    let e = finish-within c.args.walk.list c.args.walk.pass c.requires in
    omega arith

pub overflow_sub-result : goal.overflow_sub-result
overflow_sub-result c =
    let e = finish-within c.args.walk.list c.args.walk.pass c.requires in
    omega arith

pub finish-requires-in-Conditional : goal.finish-requires-in-Conditional
finish-requires-in-Conditional c =
    finish-at c.args.walk.list c.args.walk.pass _ c.in-Conditional.is c.requires

pub returns-in-Split : goal.returns-in-Split
returns-in-Split c =
    ends_by c.args.walk.list c.args.walk.pass _ c.in-Split.is
    c.finish.ensures

pub returns-in-Unary : goal.returns-in-Unary
returns-in-Unary c =
    ends_by c.args.walk.list c.args.walk.pass _ c.in-Unary.is (right-ends _ c.args.walk.list)

pub returns-in-Conditional : goal.returns-in-Conditional
returns-in-Conditional c =
    ends_by c.args.walk.list c.args.walk.pass _ c.in-Conditional.is
    c.finish-in-Conditional.ensures

pub returns-in_default : goal.returns-in_default
returns-in_default c =
    gathered-ends _ c.args.walk.list c.args.walk.pass (gathering-at c.args.walk.pass (opened c.in_default.in_default-own.keys4))
