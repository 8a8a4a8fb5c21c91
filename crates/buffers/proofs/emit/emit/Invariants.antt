-- `buffers::emit::emit` meets its contract: the loop, by the laws of Emitting. Assumes nothing.
use Prim.Native.Nat.{◌-◌}
use lib.ListN.{length}
use Rattle.buffers.specs.Emit.{CanEmit}
use Rattle.buffers.proofs.Emitting.{EmitAt}
use Rattle.buffers.proofs.emit.emit.Given as goal

abbrev pub invariant-loop-s : goal.invariant-loop-s
invariant-loop-s l =
    (p : CanEmit l.initial.work l.first l.to l.stack) × EmitAt l.initial.work l.first l.to l.stack p l.work l.s l.top l.nodes

abbrev pub decreases-loop-s : goal.decreases-loop-s
decreases-loop-s l =
    length l.initial.work - l.nodes
