-- `liftcount::finish::close_last` meets its contract: `close` with scratch of its own. Assumes nothing.
use mir.Facts.{to_z-of_z}
use Rattle.liftcount.proofs.finish.close_last.Goals as goal

pub returns : goal.returns
returns c =
    rw (to_z-of_z c.ranges.from, to_z-of_z c.ranges.to) at c.close.ensures
