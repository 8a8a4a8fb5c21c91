-- `nodes::slots::set_operator` meets its contract.
use Rattle.nodes.proofs.slots.set_operator.Goals as goal

pub returns : goal.returns
returns c =
    rw c.with_operator.ensures
