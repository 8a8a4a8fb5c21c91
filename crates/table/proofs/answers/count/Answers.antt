-- `table::answers::count` meets its contract: the mark of a message, and any other. Assumes nothing.
use borrow.Author.{Tests.{eq-eqb, ne_eqb}}
use Rattle.molang.specs.Lines.{message_mark}
use Rattle.table.specs.Answers.{said_number}
use Rattle.table.proofs.answers.count.Goals as goal

pub returns-then-at-eq-MESSAGE : goal.returns-then-at-eq-MESSAGE
unfolding said_number
returns-then-at-eq-MESSAGE c =
    let at = c.at in
    rw (said_number, ← at.ensures, eq-eqb at.result message_mark c.if-at-eq-MESSAGE.true) c.message_count.ensures

pub returns : goal.returns
unfolding said_number
returns c =
    let at = c.at in
    rw (said_number, ← at.ensures, ne_eqb at.result message_mark c.if-at-eq-MESSAGE.false) c.items.ensures
