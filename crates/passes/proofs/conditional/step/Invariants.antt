-- `step`: the items that are read are gathered, and their tokens counted (ConditionalLaws).
use Rattle.passes.proofs.ConditionalLaws.{Gathering}
use Rattle.passes.proofs.conditional.step.Given as goal

abbrev pub invariant-loop-read : goal.invariant-loop-read
invariant-loop-read l =
    Gathering l.work l.list l.tokens l.read l.seen
