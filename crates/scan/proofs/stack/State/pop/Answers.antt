-- `scan::stack::State::pop` meets its contract. Assumes nothing.
use Rattle.scan.proofs.{ViewLaws.{at-pop}}
use Rattle.scan.proofs.stack.State.pop.Goals as goal

pub returns : goal.returns
returns c = at-pop _ _ c.requires.0 c.requires.1
