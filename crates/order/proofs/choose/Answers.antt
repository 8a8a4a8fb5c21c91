-- `order::choose` meets its contract. Assumes nothing.
use mathlib.Core.Path.{sym, ◌∙◌}
use Rattle.order.proofs.Ranking.{chosen-run, chosen-unused, chosen-gated, gate-open, open-other}
use Rattle.order.proofs.choose.Goals as goal

pub returns-then-not-intersects : goal.returns-then-not-intersects
returns-then-not-intersects c =
    chosen-unused c.args.used c.args.rank (sym c.intersects.ensures ∙ c.if-not-intersects.true)

pub returns-in-Calls : goal.returns-in-Calls
returns-in-Calls c =
    rw c.then_some.ensures
    (chosen-gated c.args.used c.args.rank c.in-Calls.is (sym c.intersects.ensures ∙ c.if-not-intersects.false)
    c.intersects-in-Calls.result (gate-open c.args.used ∙ sym c.intersects-in-Calls.ensures))

pub returns-in_default : goal.returns-in_default
returns-in_default c =
    chosen-run c.args.used c.args.rank (sym c.intersects.ensures ∙ c.if-not-intersects.false)
    (open-other c.args.used c.args.rank.pass c.in_default.not-Calls)
