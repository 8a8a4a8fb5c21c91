-- `scan::stack::State::lay` meets its contract. Assumes nothing.
use Rattle.scan.proofs.{ViewLaws.{at-lay}}
use Rattle.scan.proofs.stack.State.lay.Goals as goal

pub returns : goal.returns
returns c =
    at-lay _ _ _ c.requires.0 c.requires.1
