-- `table::holds`: whether the words from here on are those that the line says decides it.
use Rattle.std.proofs.Common.{◌≡◌, drop}
use Rattle.table.specs.Marked.{said_count, holds_from}
use Rattle.table.proofs.holds.Given as goal

abbrev pub invariant-loop-i : goal.invariant-loop-i
invariant-loop-i l =
    holds_from l.i l.said l.n l.rest (drop l.i l.buffer) ≡ holds_from 0 l.said (said_count l.mark l.said) l.rest l.buffer
