-- `liftlists::feed::feed`: between two words.
use Rattle.std.proofs.Common.{◌≡◌}
use Rattle.liftlists.specs.{Steps.{held_in}, Going.{yet}}
use Rattle.liftlists.proofs.RunLaws.{BetweenWords}
use Rattle.liftlists.proofs.feed.feed.Given as goal

abbrev pub invariant-loop-word : goal.invariant-loop-word
invariant-loop-word g l =
    (l.word-iterator.size ≡ 4)
    × BetweenWords l.to (yet l.to (held_in l.initial.then l.initial.list) l.initial.out l.initial.end) l.chunk l.word-iterator.rest.now l.list
    l.out l.then l.end
