-- `scan::stack::State::leaf` meets its contract. Assumes nothing.
use Rattle.scan.specs.{Views.{read_from}, Turns.{leaf_turn}, States.{view_of, haves}}
use Rattle.scan.proofs.stack.State.leaf.Goals as goal

pub returns : goal.returns
returns c =
    unfold leaf_turn read_from view_of in haves c.lay.ensures
