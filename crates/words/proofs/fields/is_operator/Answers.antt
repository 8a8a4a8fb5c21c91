-- `words::fields::is_operator` meets its contract: document 01's numbers, then a host's. Assumes nothing.
use borrow.Author.Tests.{le-leb, lt-leb}
use Rattle.molang.specs.Operator.{between, is_host, is_operator}
use Rattle.words.proofs.fields.is_operator.Goals as goal

pub returns-then-op-ge-FIRST_HOST : goal.returns-then-op-ge-FIRST_HOST
unfolding is_operator is_host between
returns-then-op-ge-FIRST_HOST c =
    let op = c.args.op in
    rw (lt-leb op 110 c.if-op-le-LAST_OPERATOR.false, le-leb 256 op c.if-op-ge-FIRST_HOST.true)

pub returns-else-op-ge-FIRST_HOST : goal.returns-else-op-ge-FIRST_HOST
unfolding is_operator is_host between
returns-else-op-ge-FIRST_HOST c =
    let op = c.args.op in
    rw (lt-leb op 110 c.if-op-le-LAST_OPERATOR.false, lt-leb 256 op c.if-op-ge-FIRST_HOST.false)

pub returns-then-op-le-LAST_OPERATOR : goal.returns-then-op-le-LAST_OPERATOR
returns-then-op-le-LAST_OPERATOR c =
    unfold is_operator in rw (le-leb c.args.op 110 c.if-op-le-LAST_OPERATOR.true)
