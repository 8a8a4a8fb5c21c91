-- `shape::walk::whole_nodes` meets its contract: node by node, by the laws of the walk. Assumes nothing.
use native.Mathlib.Omega.{arith}
use Prim.Native.Nat.{ℕ, ◌+◌, ◌*◌}
use mathlib.Core.Path.{◌≡◌}
use Rattle.words.specs.Tokens.{node_length}
use Rattle.shape.proofs.WalkLaws.{seen-node}
use Rattle.shape.proofs.walk.whole_nodes.Goals as goal

mul-suc_node : (n : ℕ) → (n + 1) * node_length ≡ n * node_length + 7
mul-suc_node n = omega arith

pub loop-node-preserved : goal.loop-node-preserved
loop-node-preserved g c =
    rw (mul-suc_node c.loop-node.node)
    (seen-node g.met.W.Walk.walks c.loop-node.invariant (omega (arith, c.loop-node-test.true))
    (c.is_node.ensures c.if-not-is_node.false) (c.fits_node.ensures c.if-not-fits_node.false) c.after_node-walk.ensures)
