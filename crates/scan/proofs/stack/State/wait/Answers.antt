-- `scan::stack::State::wait` meets its contract. Assumes nothing.
use Rattle.scan.specs.{Views.{read_from}, Turns.{wait_turn}, States.{view_of, wants}}
use Rattle.scan.proofs.stack.State.wait.Goals as goal

pub returns : goal.returns
returns c =
    unfold wait_turn read_from view_of in wants c.push.ensures
