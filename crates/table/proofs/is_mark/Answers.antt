-- `table::is_mark` meets its contract: both tests, or the first that fails. Assumes nothing.
use borrow.Author.Tests.{le-leb, lt-leb}
use Rattle.molang.specs.Lines.{any_mark}
use Rattle.table.specs.Marked.{is_mark}
use Rattle.table.proofs.is_mark.Goals as goal

pub returns-then-n-ge-ANY : goal.returns-then-n-ge-ANY
returns-then-n-ge-ANY c =
    unfold is_mark in rw (is_mark, le-leb any_mark c.args.n c.if-n-ge-ANY.true)

pub returns-else-n-ge-ANY : goal.returns-else-n-ge-ANY
returns-else-n-ge-ANY c =
    unfold is_mark in rw (is_mark, lt-leb any_mark c.args.n c.if-n-ge-ANY.false)
