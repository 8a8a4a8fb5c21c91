-- `buffers::load::load_token` meets its contract. Assumes nothing.
use Rattle.buffers.proofs.{Loading.{token-stores}}
use Rattle.buffers.proofs.load.load_token.Goals as goal

pub returns : goal.returns
returns c =
    let a = c.args in
    token-stores a.list.now a.work.now a.table.now a.i a.stack c.requires c.set_leaf.new.work
    c.slot_of-slot.result c.class-classes.result.0 c.operator_bits.result c.slot_of-slot.ensures
    (rw (c.from.ensures, c.at-token.ensures) at c.set_leaf.ensures)
    (rw c.at-token.ensures at c.operator_bits.ensures) c.class-classes.ensures
