-- `begun`, arm by arm.
use mathlib.Core.Path.{sym, ap}
use Rattle.levels.specs.Passes.{begun_of}
use Rattle.levels.proofs.{States.{begun-same}}
use Rattle.levels.proofs.turns.Pass.begun.Goals as goal
use borrow.Enum.Refused.{opened}

pub returns-in-Arrays : goal.returns-in-Arrays
returns-in-Arrays c =
    unfold begun_of in ap begun_of (sym c.in-Arrays.is)

pub returns-in-Binary : goal.returns-in-Binary
returns-in-Binary c =
    unfold begun_of in ap begun_of (sym c.in-Binary.is)

pub returns-in-Conditional : goal.returns-in-Conditional
returns-in-Conditional c =
    unfold begun_of in ap begun_of (sym c.in-Conditional.is)

pub returns-in_default : goal.returns-in_default
returns-in_default c =
    begun-same c.args.self (opened c.in_default.in_default-own.keys4)
