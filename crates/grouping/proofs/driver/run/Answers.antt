-- `run`: the loop over the driver's turns. Its invariant: what is left to be done has the whole pass's result, and takes fewer turns than
-- the loop has left.
use native.Mathlib.Omega.{arith}
use Rattle.std.proofs.lemmas.Result.{err_from_is_err_and}
use Rattle.grouping.proofs.RunLaws.{run-can-begin, run-opened, run_holds, running-advances, run-again, ran-done, ran-failed, run-never}
use Rattle.grouping.proofs.driver.run.Goals as goal

pub begin-walk-requires : goal.begin-walk-requires
begin-walk-requires c =
    run-can-begin c.requires

pub loop-init : goal.loop-init
loop-init c =
    run_holds (run-opened c.begin-walk.ensures c.requires) c.requires _ (omega arith)

pub advance-requires : goal.advance-requires
advance-requires c =
    running-advances c.loop.invariant

pub returns-in_err-after : goal.returns-in_err-after
returns-in_err-after c =
    let p = err_from_is_err_and c.from_residual.result c.from_residual.ensures.1 in
    rw (p.1, p.2)
    (ran-failed (run-opened c.begin-walk.ensures c.requires) c.loop.invariant c.in_err-after.field-0.0 c.in_err-after.ensures)

pub returns-in-Done : goal.returns-in-Done
returns-in-Done c =
    ran-done (run-opened c.begin-walk.ensures c.requires) c.loop.invariant c.in_ok-after.field-0 c.in_ok-after.ensures _ c.in-Done.is

pub loop-preserved : goal.loop-preserved
loop-preserved c =
    run-again c.in_ok-after.field-0 _ c.loop.invariant c.in_ok-after.ensures c.in-On.is
    (omega (arith, c.loop-test.true)) c.advance.auto.work

pub returns : goal.returns
returns c =
    absurd (run-never c.loop.invariant (omega (arith, c.loop-test.false)))
