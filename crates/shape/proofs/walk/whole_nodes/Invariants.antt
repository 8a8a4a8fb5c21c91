-- `shape::walk::whole_nodes`: the fault of the words that are left is the fault of all.
use Prim.Native.Nat.{◌*◌}
use Rattle.molang.specs.Words.{operator_field}
use Rattle.shape.specs.Walks.{Seen}
use Rattle.words.specs.Tokens.{node_length}
use Rattle.shape.proofs.walk.whole_nodes.Given as goal

abbrev pub invariant-loop-node : goal.invariant-loop-node
invariant-loop-node g l =
    let w = g.W.Walk in Seen w.Holds w.fault w.start l.words operator_field 0 l.walk (l.node * node_length)
