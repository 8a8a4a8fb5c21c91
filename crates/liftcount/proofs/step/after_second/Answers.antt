-- `liftcount::step::after_second` meets its contract. Assumes nothing.
use mir.{Syntax.{w16}, Facts.{to_z-of_z}}
use Rattle.std.proofs.lemmas.Result.{err_from_is_err_and}
use Rattle.liftcount.proofs.{StepLaws.{second-leads}}
use Rattle.liftcount.proofs.step.after_second.Goals as goal

pub returns-in_err-to : goal.returns-in_err-to
returns-in_err-to c counts list =
    let p = err_from_is_err_and c.from_residual.result c.from_residual.ensures.1 in
    rw (p.1, p.2)
    (second-leads counts list c.args.w c.args.from c.in_err-to.ensures)

pub returns : goal.returns
returns c counts list =
    rw (to_z-of_z c.ranges.from, to_z-of_z {w = w16} {z = c.in_ok-to.to} (record { sfits = c.in_ok-to.known_told-1-own.given.0.1 }))
    (second-leads counts list c.args.w c.args.from c.in_ok-to.ensures)
