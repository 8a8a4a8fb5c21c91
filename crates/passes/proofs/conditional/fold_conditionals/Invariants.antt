-- `fold_conditionals`: the scan gives what the fold makes of the list's items (ConditionalLoop).
use Rattle.passes.proofs.ConditionalLoop.{Scanning}
use Rattle.passes.proofs.conditional.fold_conditionals.Given as goal

abbrev pub invariant-loop-scan : goal.invariant-loop-scan
invariant-loop-scan l =
    Scanning l.initial.work l.fn.list l.work l.scan

abbrev pub decreases-loop-scan : goal.decreases-loop-scan
decreases-loop-scan l =
    l.scan.read
