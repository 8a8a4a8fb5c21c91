-- `step`, arm by arm: the level's turn.
use mathlib.Core.Path.{sym, subst, ◌∙◌}
use Rattle.passes.{specs.TokenTurns.{Seeks}, proofs.TurnLaws.{turn_at, turned_by, turn-waiting}, proofs.SeekLaws.{seeks-at}}
use Rattle.grouping.proofs.driver.step.Goals as goal
use borrow.Enum.Refused.{opened}

pub array_on-requires : goal.array_on-requires
array_on-requires c =
    let array = turn-waiting c.args.walk.list c.args.walk.pass _ c.in-Some.ensures c.requires in
    (turn_at c.args.walk.list c.args.walk.pass _ array.0 c.requires, array.1)

pub returns-in-Some : goal.returns-in-Some
returns-in-Some c =
    turned_by c.args.walk.list c.args.walk.pass _ (turn-waiting c.args.walk.list c.args.walk.pass _ c.in-Some.ensures c.requires).0
    c.array_on.ensures

pub seek-requires : goal.seek-requires
seek-requires c =
    let same = sym c.anew.ensures in
    let none = sym c.waiting.ensures ∙ c.in_default.is in
    let seeks = seeks-at c.args.walk.pass (opened c.in_default-pass.in_default-pass-own.keys4) none c.requires in
    (turn_at c.args.walk.list c.args.walk.pass _ same c.requires, subst Seeks same seeks)

pub returns-in-Split : goal.returns-in-Split
returns-in-Split c =
    turned_by c.args.walk.list c.args.walk.pass _ c.in-Split.is
    c.step.ensures

pub returns-in-Unary : goal.returns-in-Unary
returns-in-Unary c =
    turned_by c.args.walk.list c.args.walk.pass _ c.in-Unary.is
    c.step-in-Unary.ensures

pub returns-in-Conditional : goal.returns-in-Conditional
returns-in-Conditional c =
    turned_by c.args.walk.list c.args.walk.pass _ c.in-Conditional.is
    c.step-in-Conditional.ensures

pub returns-in_default-pass : goal.returns-in_default-pass
returns-in_default-pass c =
    turned_by c.args.walk.list c.args.walk.pass _ (sym c.anew.ensures)
    c.seek.ensures
