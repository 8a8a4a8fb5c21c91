-- `buffers::emit::emit_node` meets its contract. Assumes nothing.
use Rattle.buffers.proofs.{NodeWords.{node-emitted}}
use Rattle.buffers.proofs.emit.emit_node.Goals as goal

pub returns : goal.returns
returns c =
    let a = c.args in
    node-emitted a.work.now c.lay_node.new.words a.s a.at c.count_chain-children.result c.requires
    (rw c.first_of.ensures at c.count_chain-children.ensures)
    (rw (c.from.ensures, c.token_of-token.ensures) at c.lay_node.ensures)

pub count_chain-children-requires : goal.count_chain-children-requires
count_chain-children-requires c =
    rw c.first_of.ensures c.requires.children
