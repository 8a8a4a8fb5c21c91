-- `gather`: its loop turns the chain of the index's children onto the array's (ArrayChain).
use lib.ListN.{length}
use Rattle.passes.proofs.ArrayChain.{Gathering, to_turn}
use Rattle.passes.proofs.arrays.gather.Given as goal

abbrev pub invariant-loop-s : goal.invariant-loop-s
invariant-loop-s l =
    Gathering l.initial.work l.array l.index l.work l.head l.s

abbrev pub decreases-loop-s : goal.decreases-loop-s
decreases-loop-s l =
    to_turn (length l.initial.work) l.s
