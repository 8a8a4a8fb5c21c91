-- Writing a node and writing an operand both fall by the remaining node count: a node's operand has a node less, and an operand's node
-- as many. The loop's invariant is how far up the row is written.
use Rattle.std.proofs.Common.{◌+◌, ◌*◌}
use Rattle.write.proofs.{StepLaws.{nodes_left}, SpineLaws.{Climbing}}
use Rattle.write.proofs.spell.+write_node_write_operand.Given as goal

abbrev pub decreases-write_node : goal.decreases-write_node
decreases-write_node l = 2 * nodes_left l.words.now

abbrev pub decreases-write_operand : goal.decreases-write_operand
decreases-write_operand l = 2 * nodes_left l.words.now + 1

abbrev pub invariant-write_node-loop-node : goal.invariant-write_node-loop-node
invariant-write_node-loop-node l = Climbing l.words l.fn.list l.fn.pen.to l.node l.place l.next l.list l.row.to l.row.seen

abbrev pub decreases-write_node-loop-node : goal.decreases-write_node-loop-node
decreases-write_node-loop-node l = l.node
