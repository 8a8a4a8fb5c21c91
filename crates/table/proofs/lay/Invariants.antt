-- `table::lay`: the words up to here are the mark's, and the others are as they were.
use Rattle.std.proofs.Common.{◌≡◌, ◌++◌, length, drop}
use Rattle.table.specs.Marked.{first_words}
use Rattle.table.proofs.lay.Given as goal

abbrev pub invariant-loop-i : goal.invariant-loop-i
invariant-loop-i l =
    (length l.words ≡ length l.initial.words) × (l.words ≡ first_words l.i l.marked ++ drop l.i l.initial.words)
