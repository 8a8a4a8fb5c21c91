-- `shortlists::digits::find_length` meets its contract. The loop's invariant: the lists that are shorter than `length` stand before the
use Prim.Native.Nat.{◌+◌, ◌^◌, ◌≤◌}
use mathlib.Core.Path.{◌≡◌}
use Rattle.shortlists.specs.ShortLists.{powers}
use Rattle.shortlists.proofs.digits.find_length.Given as goal

abbrev pub invariant-loop-size : goal.invariant-loop-size
invariant-loop-size l =
    (l.length ≤ 6) × (l.size ≡ l.letters ^ l.length) × (l.position ≡ powers l.letters l.length + l.left)

abbrev pub decreases-loop-size : goal.decreases-loop-size
decreases-loop-size l =
    l.left
