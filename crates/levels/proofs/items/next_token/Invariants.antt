-- `next_token`: its loop passes over an item, or stops at one (Seeking).
use Rattle.levels.proofs.Seeking.{Seeking}
use Rattle.levels.proofs.items.next_token.Given as goal

abbrev pub invariant-loop-read : goal.invariant-loop-read
invariant-loop-read l =
    Seeking l.initial.work l.list l.classes.0 l.work l.read l.write
