-- `held`, arm by arm.
use Rattle.levels.proofs.{States.{held_none}}
use Rattle.levels.proofs.turns.Pass.held.Goals as goal
use borrow.Enum.Refused.{opened}

pub returns-in-Split : goal.returns-in-Split
returns-in-Split c =
    rw c.in-Split.is

pub returns-in-Arrays : goal.returns-in-Arrays
returns-in-Arrays c =
    rw c.in-Arrays.is

pub returns-in-Binary : goal.returns-in-Binary
returns-in-Binary c =
    rw c.in-Binary.is

pub returns-in-Conditional : goal.returns-in-Conditional
returns-in-Conditional c =
    rw c.in-Conditional.is

pub returns-in_default : goal.returns-in_default
returns-in_default c =
    held_none c.args.self (opened c.in_default.in_default-own.keys5)
