-- `liftlists::carry`: between two chunks.
use Rattle.liftlists.proofs.RunLaws.{BetweenChunks}
use Rattle.liftlists.proofs.carry.Given as goal

abbrev pub invariant-loop : goal.invariant-loop
invariant-loop g l = BetweenChunks l.to l.list l.out l.stage l.at
