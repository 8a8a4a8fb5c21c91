-- `nodes::children::give_children` meets its contract.
use Rattle.nodes.proofs.{Giving.{Giving}}
use Rattle.nodes.proofs.children.give_children.Given as goal

abbrev pub invariant-loop-i : goal.invariant-loop-i
invariant-loop-i l =
    Giving l.initial.work l.parent l.from l.n l.work l.i l.head l.below.0
