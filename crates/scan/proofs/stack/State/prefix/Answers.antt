-- `scan::stack::State::prefix` meets its contract. Assumes nothing.
use Rattle.scan.specs.{Views.{read_from}, Turns.{prefix_turn}, States.{view_of, haves}}
use Rattle.scan.proofs.stack.State.prefix.Goals as goal

pub returns : goal.returns
returns c =
    unfold prefix_turn read_from view_of in haves c.lay.ensures
