-- `table::answers::message_count` meets its contract: a mark stands after the first, or none does. Assumes nothing.
use borrow.Author.{Tests.{lt-ltb, le-ltb}}
use lib.ListN.{length}
use Rattle.table.specs.{Marked.{second_at}, Answers.{message_count}}
use Rattle.table.proofs.answers.message_count.Goals as goal

pub returns-then-next_mark-said : goal.returns-then-next_mark-said
unfolding message_count second_at
returns-then-next_mark-said c =
    let said = c.args.said.now in
    rw (message_count, second_at, ← c.next_mark.ensures.0, lt-ltb c.next_mark.result (length said) c.if-next_mark-said.true)

pub returns : goal.returns
unfolding message_count second_at
returns c =
    let said = c.args.said.now in
    rw (message_count, second_at, ← c.next_mark.ensures.0, le-ltb c.next_mark.result (length said) c.if-next_mark-said.false)
