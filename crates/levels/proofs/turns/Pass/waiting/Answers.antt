-- `waiting`, arm by arm.
use mathlib.Core.Path.{sym, ◌∙◌}
use Rattle.levels.proofs.{States.{waiting_none, waiting_array}}
use Rattle.levels.proofs.turns.Pass.waiting.Goals as goal
use borrow.Enum.Refused.{opened}

pub returns-in-Arrays : goal.returns-in-Arrays
returns-in-Arrays c =
    c.then_some.ensures ∙ waiting_array c.in-Arrays.array c.in-Arrays.lent (sym c.in-Arrays.is)

pub returns-in_default : goal.returns-in_default
returns-in_default c =
    waiting_none c.args.self (opened c.in_default.in_default-own.keys2)
