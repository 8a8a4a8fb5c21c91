-- `write::plain::judge_from` meets its contract. The loop's invariant is `Judging`, at the number of the reader's node.
use Rattle.std.proofs.Common.{◌≡◌, ◌/◌}
use Rattle.words.specs.Tokens.{node_length}
use Rattle.write.proofs.JudgeLaws.{Judging}
use Rattle.write.proofs.plain.judge_from.Given as goal

abbrev pub invariant-loop-seen : goal.invariant-loop-seen
invariant-loop-seen l =
    goal.iterator-loop-seen.can_next l.seen-iterator × goal.iterator-loop-seen.is_finite l.seen-iterator
    × (l.seen-iterator.words.now ≡ l.tree)
    × Judging l.tree l.waiting l.top l.tokens (l.seen-iterator.at / node_length) l.seen-iterator.at
