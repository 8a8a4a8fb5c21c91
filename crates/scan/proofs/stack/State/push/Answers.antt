-- `scan::stack::State::push` meets its contract. Assumes nothing.
use Rattle.scan.proofs.{ViewLaws.{at_push}}
use Rattle.scan.proofs.stack.State.push.Goals as goal

pub returns : goal.returns
returns c =
    at_push _ _ _ c.requires.0 c.requires.1
