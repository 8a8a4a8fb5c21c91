-- `listing::rows::put_node` meets its contract: four fields of the node's words, in a line. Assumes nothing.
use Rattle.listing.proofs.{RowLaws.{node-laid}}
use Rattle.listing.proofs.rows.put_node.Goals as goal

pub returns : goal.returns
returns c =
    let tree = c.args.tree.now in
    let from = c.args.from in
    node-laid tree from c.operator-operator.ensures c.low-children.ensures c.low-start.ensures c.low-end.ensures
    c.put_row.ensures
