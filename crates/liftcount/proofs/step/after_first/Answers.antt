-- `liftcount::step::after_first` meets its contract. Assumes nothing.
use mir.{Syntax.{w16}, Facts.{to_z-of_z}}
use Rattle.std.proofs.lemmas.Result.{err_from_is_err_and}
use Rattle.liftcount.proofs.{StepLaws.{first-leads}}
use Rattle.liftcount.proofs.step.after_first.Goals as goal

pub returns-in_err-version : goal.returns-in_err-version
returns-in_err-version c counts list =
    let p = err_from_is_err_and c.from_residual.result c.from_residual.ensures.1 in
    rw (p.1, p.2)
    (first-leads counts list c.args.w c.in_err-version.ensures)

pub returns : goal.returns
returns c counts list =
    rw (to_z-of_z {w = w16} {z = c.in_ok-version.version} (record { sfits = c.in_ok-version.known_told-1-own.given.0.1 })) (first-leads counts list c.args.w c.in_ok-version.ensures)
