-- `nodes::slots::make` meets its contract. Assumes nothing.
use Rattle.nodes.proofs.slots.make.Goals as goal

pub returns : goal.returns
returns c =
    rw (c.bare-token.ensures, c.token_of.ensures) at c.set_leaf.ensures
