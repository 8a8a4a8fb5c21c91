-- `stackorder::reorder::reorder` meets its contract. The loop's invariant: what is out and what is to come are the whole tree in the other
use Rattle.stackorder.specs.{Reorder.{CanReorder}}
use Rattle.stackorder.proofs.ReorderLaws.{Walks, way_of}
use Rattle.stackorder.proofs.reorder.reorder.Given as goal

abbrev pub invariant-loop-cursor : goal.invariant-loop-cursor
invariant-loop-cursor l =
    (g : CanReorder l.direction l.words l.initial.output) → Walks g l.output l.cursor

abbrev pub decreases-loop-cursor : goal.decreases-loop-cursor
decreases-loop-cursor l =
    way_of l.direction l.words l.cursor
