-- `nodes::children::count_chain` meets its contract: a step of the count for the first slot, one for the second, then one at each turn of
use Prim.Native.Nat.{◌-◌, ◌^◌, ◌<◌}
use lib.ListN.{length}
use Rattle.nodes.proofs.Taking.{Counting}
use Rattle.nodes.proofs.children.count_chain.Given as goal

abbrev pub invariant-loop-s : goal.invariant-loop-s
invariant-loop-s l =
    Counting l.work l.first l.s l.n × (l.s < 2 ^ 32)

abbrev pub decreases-loop-s : goal.decreases-loop-s
decreases-loop-s l =
    length l.work - l.n
