-- `rules::fill`: the rules of the first i nodes are in front.
use Rattle.rules.proofs.{NodeLaws.{LaidTo}}
use Rattle.rules.proofs.fill.Given as goal

abbrev pub invariant-loop-i : goal.invariant-loop-i
invariant-loop-i l =
    LaidTo l.comparisons_first l.nodes l.initial.rules l.i l.rules
