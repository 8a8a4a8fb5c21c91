-- `derived::used_of` meets its contract. The loop's invariant: the operators seen so far and those of the words that are left are those of
use Prim.Native.Nat.{ℕ, ◌-◌}
use mathlib.Core.{Path.{◌≡◌}, Bool.{◌||◌}}
use lib.ListN.{length, drop}
use Rattle.molang.specs.{Parse.{in_halves}, Words.{operator_field}}
use Rattle.derived.specs.Derived.{named}
use Rattle.derived.proofs.used_of.Given as goal

abbrev pub invariant-loop-i : goal.invariant-loop-i
invariant-loop-i l =
    (n : ℕ) → (in_halves l.used.low l.used.high n || named operator_field (drop l.i l.list) n) ≡ named operator_field l.list n

abbrev pub decreases-loop-i : goal.decreases-loop-i
decreases-loop-i l =
    length l.list - l.i
