-- `scan::scan::turns`: the walk came to the turn, in as many words. The measure is what is left.
use Rattle.scan.proofs.WalkingLaws.{Walking, left_of}
use Rattle.scan.proofs.scan.turns.Given as goal

abbrev pub invariant-loop-turn : goal.invariant-loop-turn
invariant-loop-turn l =
    Walking l.given.list.now l.given.table.now l.given.used l.initial.work l.work l.turn

abbrev pub decreases-loop-turn : goal.decreases-loop-turn
decreases-loop-turn l =
    left_of l.turn
