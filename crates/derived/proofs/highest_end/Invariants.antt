-- `derived::highest_end` meets its contract. The loop's invariant: the highest end of the words that are left, after what was seen so far,
use Prim.Native.Nat.{◌-◌}
use mathlib.Core.Path.{◌≡◌}
use lib.ListN.{length, drop}
use Rattle.molang.specs.Words.{operator_field, end_field}
use Rattle.derived.specs.Derived.{highest}
use Rattle.derived.proofs.highest_end.Given as goal

abbrev pub invariant-loop-i : goal.invariant-loop-i
invariant-loop-i l =
    highest end_field l.end (drop l.i l.list) ≡ highest operator_field 0 l.list

abbrev pub decreases-loop-i : goal.decreases-loop-i
decreases-loop-i l =
    length l.list - l.i
