-- `stackorder::reorder::Direction::next` meets its contract, direction by direction. Assumes nothing.
use Rattle.stackorder.proofs.reorder.Direction.next.Goals as goal

pub returns-in-Forward : goal.returns-in-Forward
returns-in-Forward c =
    rw c.in-Forward.is

pub returns-in-Backward : goal.returns-in-Backward
returns-in-Backward c =
    rw c.in-Backward.is
