-- `table::next_mark`: the mark that is looked for from here on is the one from the start on.
use Rattle.std.proofs.Common.{◌≡◌, ◌+◌, ◌≤◌, max, length, drop}
use Rattle.table.specs.Marked.{unmarked}
use Rattle.table.proofs.next_mark.Given as goal

abbrev pub invariant-loop-end : goal.invariant-loop-end
invariant-loop-end l =
    (l.end + unmarked l.last (drop l.end l.numbers) ≡ l.from + unmarked l.last (drop l.from l.numbers))
    × (l.end ≤ max l.from (length l.numbers))
