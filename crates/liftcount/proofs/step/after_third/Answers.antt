-- `liftcount::step::after_third` meets its contract. Assumes nothing.
use mathlib.Core.Path.{sym, ◌∙◌}
use mir.Facts.{to_z-of_z}
use Rattle.liftcount.proofs.{StepLaws.{third-opens, third-fault}}
use Rattle.liftcount.proofs.step.after_third.Goals as goal

pub returns-then-kind-eq0 : goal.returns-then-kind-eq0
returns-then-kind-eq0 c counts list =
    rw (to_z-of_z c.ranges.from, to_z-of_z c.ranges.to)
    (third-opens counts list c.args.w c.args.from c.args.to (sym c.kind.ensures ∙ c.if-kind-eq0.true))

pub returns : goal.returns
returns c counts list =
    rw c.at.ensures
    (third-fault counts list c.args.w c.args.from c.args.to (λ e. c.if-kind-eq0.false (c.kind.ensures ∙ e)))
