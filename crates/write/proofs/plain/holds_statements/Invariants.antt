-- `write::plain::holds_statements` meets its contract. The loop's invariant is `Holding`.
use Rattle.std.proofs.Common.{◌≡◌}
use Rattle.write.proofs.RootLaws.{Holding}
use Rattle.write.proofs.plain.holds_statements.Given as goal

abbrev pub invariant-loop-seen : goal.invariant-loop-seen
invariant-loop-seen l =
    goal.iterator-loop-seen.can_next l.seen-iterator × goal.iterator-loop-seen.is_finite l.seen-iterator
    × (l.seen-iterator.words.now ≡ l.tree) × Holding l.tree l.due l.seen-iterator.at
