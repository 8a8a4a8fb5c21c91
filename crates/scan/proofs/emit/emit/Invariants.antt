-- `scan::emit::emit`: a record a turn.
use mathlib.Core.{Path.{◌≡◌}}
use Rattle.scan.proofs.{EmitLaws.{emitted}}
use Rattle.scan.proofs.emit.emit.Given as goal

abbrev pub invariant-loop-r : goal.invariant-loop-r
invariant-loop-r l =
    l.tree ≡ emitted l.list l.work l.initial.tree l.from l.r
