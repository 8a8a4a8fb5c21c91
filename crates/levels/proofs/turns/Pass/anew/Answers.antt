-- `anew`, arm by arm.
use mathlib.Core.Path.{sym}
use Rattle.levels.proofs.turns.Pass.anew.Goals as goal

pub returns-in-Split : goal.returns-in-Split
returns-in-Split c =
    sym c.in-Split.is

pub returns-in-Arrays : goal.returns-in-Arrays
returns-in-Arrays c =
    sym c.in-Arrays.is

pub returns-in-Binary : goal.returns-in-Binary
returns-in-Binary c =
    sym c.in-Binary.is

pub returns-in-Conditional : goal.returns-in-Conditional
returns-in-Conditional c =
    sym c.in-Conditional.is
