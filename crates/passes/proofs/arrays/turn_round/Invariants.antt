-- `turn_round`: its loop turns the array's chain round (ArrayChain).
use Rattle.passes.proofs.ArrayChain.{Rounding}
use Rattle.passes.proofs.arrays.turn_round.Given as goal

abbrev pub invariant-loop-s : goal.invariant-loop-s
invariant-loop-s l =
    Rounding l.initial.work l.array l.work l.head l.below.0 l.s

abbrev pub decreases-loop-s : goal.decreases-loop-s
decreases-loop-s l =
    l.s
