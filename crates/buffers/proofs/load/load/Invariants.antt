-- `buffers::load::load` meets its contract.
use Rattle.buffers.proofs.{Loading.{LoadAt}}
use Rattle.buffers.proofs.load.load.Given as goal

abbrev pub invariant-loop-i : goal.invariant-loop-i
invariant-loop-i l =
    LoadAt l.list l.initial.work l.n l.work l.i
