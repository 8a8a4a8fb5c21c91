-- `nodes::children::last_of_chain` meets its contract.
use Prim.Native.Nat.{◌-◌}
use lib.ListN.{length}
use Rattle.nodes.proofs.Taking.{Lasting}
use Rattle.nodes.proofs.children.last_of_chain.Given as goal

abbrev pub invariant-loop-s : goal.invariant-loop-s
invariant-loop-s l =
    Lasting l.work l.first l.last l.s

abbrev pub decreases-loop-s : goal.decreases-loop-s
decreases-loop-s l =
    length l.work - l.last
