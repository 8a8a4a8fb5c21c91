-- `scan::stack::State::settle` meets its contract. The loop's invariant: what is left to settle becomes the same as what was given. The measure
use Rattle.scan.proofs.{SettleLaws.{Settling}}
use Rattle.scan.proofs.stack.State.settle.Given as goal

abbrev pub invariant-loop-s : goal.invariant-loop-s
invariant-loop-s l =
    Settling l.from l.initial.work l.initial.s l.work l.s

abbrev pub decreases-loop-s : goal.decreases-loop-s
decreases-loop-s l =
    l.s.depth
