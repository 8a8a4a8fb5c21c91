-- `nodes::children::take_chain` meets its contract: a turn of the loop is a step for each of two slots, or for the last one. Assumes
use Prim.Native.Nat.{◌-◌}
use lib.ListN.{length}
use Rattle.nodes.proofs.{Taking.{Taking}}
use Rattle.nodes.proofs.children.take_chain.Given as goal

abbrev pub invariant-loop-s : goal.invariant-loop-s
invariant-loop-s l =
    Taking l.initial.work l.first l.to l.work l.s l.i

abbrev pub decreases-loop-s : goal.decreases-loop-s
decreases-loop-s l =
    length l.initial.work - l.i
