-- `everylist::print`: the texts at the positions were handed over one after another. The measure is the number of positions that are left.
use Rattle.std.proofs.Common.{◌-◌, ◌≤◌}
use Rattle.everylist.proofs.InputLaws.{Sofar}
use Rattle.everylist.proofs.print.Given as goal

abbrev pub invariant-loop-n : goal.invariant-loop-n
invariant-loop-n g l = (l.position ≤ 299593) × Sofar l.kept l.position

abbrev pub decreases-loop-n : goal.decreases-loop-n
decreases-loop-n g l = 299594 - l.position
