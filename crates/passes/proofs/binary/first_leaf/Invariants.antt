-- `first_leaf`: its loop goes down or on, and has turns enough (BinarySearch).
use Prim.Native.Nat.{◌-◌}
use Rattle.passes.proofs.BinarySearch.{Searching}
use Rattle.passes.proofs.binary.first_leaf.Given as goal

abbrev pub invariant-loop : goal.invariant-loop
invariant-loop l =
    Searching l.work l.top l.classes.0 l.leaf l.s (l.end - l.counter)
