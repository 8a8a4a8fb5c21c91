-- `liftcount::step::reopen` meets its contract, case by case. Assumes nothing.
use mir.Facts.{to_z-of_z}
use Rattle.liftcount.proofs.step.reopen.Goals as goal

pub returns-in-Ok : goal.returns-in-Ok
returns-in-Ok c list =
    rw c.in-Ok.is (rw (to_z-of_z c.ranges.from, to_z-of_z c.ranges.to) at (c.after_word-in-Ok.ensures list))

pub returns-in-Err : goal.returns-in-Err
returns-in-Err c list =
    rw c.in-Err.is (c.after_word.ensures list)
