-- `table::asked::limit_of` meets its contract: a mark with a limit, and any other. Assumes nothing.
use borrow.Author.Tests.{le-leb, lt-leb}
use Rattle.molang.specs.Lines.{within_mark}
use Rattle.table.specs.Asked.{limit_of}
use Rattle.table.proofs.asked.limit_of.Goals as goal

pub returns-then-mark-ge-WITHIN : goal.returns-then-mark-ge-WITHIN
returns-then-mark-ge-WITHIN c =
    unfold limit_of in rw (limit_of, le-leb within_mark c.args.mark c.if-mark-ge-WITHIN.true)

pub returns : goal.returns
returns c =
    unfold limit_of in rw (limit_of, lt-leb within_mark c.args.mark c.if-mark-ge-WITHIN.false)
