-- `lines::run` is safe: no more lines were counted than bytes of the text were passed. The measure is what is left of the numbers.
use Rattle.std.proofs.Common.{length, ◌-◌, ◌≤◌}
use Rattle.lines.proofs.run.Given as goal

abbrev pub invariant-loop-start : goal.invariant-loop-start
invariant-loop-start g l =
    (l.start ≤ length l.numbers) × (l.from ≤ length l.text) × (l.count ≤ l.start) × (l.others ≤ l.count)

abbrev pub decreases-loop-start : goal.decreases-loop-start
decreases-loop-start g l =
    length l.numbers - l.start
