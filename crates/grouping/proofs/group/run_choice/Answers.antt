-- `run_choice`: a pass that is chosen runs, where slot 0 notes one of its classes.
use mathlib.Core.Path.{sym, ap₂, ◌∙◌}
use Rattle.ops.specs.Classes.{shares}
use Rattle.grouping.proofs.GateLaws.{chosen-can-run, chosen-run, gate-shut}
use Rattle.grouping.proofs.group.run_choice.Goals as goal

pub returns-else-intersects : goal.returns-else-intersects
returns-else-intersects c =
    let none = ap₂ shares (sym c.classes_of.ensures) (sym c.classes.ensures) ∙ (sym c.intersects.ensures ∙ c.if-intersects.false) in
    chosen-run c.args.choice _ c.in-Some.is (gate-shut (chosen-can-run c.args.choice _ c.in-Some.is c.requires) none)
