-- `nodes::slots::set_close` meets its contract.
use Rattle.nodes.proofs.slots.set_close.Goals as goal

pub returns : goal.returns
returns c =
    rw c.close_word.ensures
