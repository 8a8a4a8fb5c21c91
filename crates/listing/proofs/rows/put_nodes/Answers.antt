-- `listing::rows::put_nodes` meets its contract.
use Rattle.std.proofs.Common.{◌≡◌, arith}
use Rattle.text.proofs.TextLaws.{wrote_none}
use Rattle.listing.specs.Rows.{node_rows}
use Rattle.listing.proofs.RowLaws.{node-rows-length, nodes-on}
use Rattle.listing.proofs.rows.put_nodes.Goals as goal

pub loop-i-init : goal.loop-i-init
loop-i-init c = unfold node_rows in wrote_none _ _

pub put_node-end-requires : goal.put_node-end-requires
put_node-end-requires c =
    let room = node-rows-length c.loop-i.i c.args.tree.now in
    (omega (arith, c.loop-i.invariant.ends), omega arith)

pub loop-i-preserved : goal.loop-i-preserved
loop-i-preserved c = nodes-on (omega arith) c.args.tree.now c.loop-i.i c.loop-i.invariant c.put_node-end.ensures

pub returns : goal.returns
returns c = let all : c.loop-i.i ≡ c.args.n = omega arith in rw all at c.loop-i.invariant
