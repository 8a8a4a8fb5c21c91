-- `resumed`, arm by arm.
use mathlib.Core.Path.{◌∙◌}
use Rattle.levels.specs.Passes.{resumed_with}
use Rattle.levels.proofs.{States.{resumed-as, resumed-statements, resumed-same}}
use Rattle.levels.proofs.turns.Pass.resumed.Goals as goal

pub returns-in-Unsplit : goal.returns-in-Unsplit
returns-in-Unsplit c =
    c.statements.ensures ∙ resumed-statements c.args.self c.args.held c.in-Unsplit.in-Unsplit-own.keys1

pub returns-in-Arrays : goal.returns-in-Arrays
returns-in-Arrays c = unfold resumed_with in resumed-as c.args.self _ c.args.held c.in-Arrays.is

pub returns-in-Binary : goal.returns-in-Binary
unfolding resumed_with
returns-in-Binary c = resumed-as c.args.self _ c.args.held c.in-Binary.is

pub returns-in-Conditional : goal.returns-in-Conditional
returns-in-Conditional c = unfold resumed_with in resumed-as c.args.self _ c.args.held c.in-Conditional.is

pub returns-in_default : goal.returns-in_default
returns-in_default c =
    resumed-same c.args.self c.args.held c.in_default.in_default-own.keys5
