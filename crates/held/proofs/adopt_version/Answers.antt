-- `held::adopt_version` meets its contract: there is a next count, or there is none. Assumes nothing.
use native.Mathlib.Omega.{arith}
use mir.{Syntax.{w16}, Facts.{to_z-of_z}}
use Rattle.std.proofs.lemmas.Result.{err_from_is_err_and}
use Rattle.held.proofs.{FaultLaws.{next-count, count-place}, CallLaws.{adopt-turned, has-adopted}}
use Rattle.held.proofs.adopt_version.Goals as goal

pub returns-in_err-count_fault : goal.returns-in_err-count_fault
returns-in_err-count_fault c =
    let p = err_from_is_err_and c.from_residual.result c.from_residual.ensures.1 in
    rw (p.1, p.2) (record { outcomes = adopt-turned c.args.held c.args.version c.in_err-count_fault.ensures; place = count-place c.args.held c.in_err-count_fault.ensures })

pub returns-clause-outcomes : goal.returns-clause-outcomes
returns-clause-outcomes c =
    has-adopted c.args.held c.args.version c.in_ok-count_fault.ensures (to_z-of_z {w = w16} c.ranges.version)

pub overflow_add-result : goal.overflow_add-result
overflow_add-result c =
    omega (arith, next-count c.args.held c.in_ok-count_fault.ensures)
