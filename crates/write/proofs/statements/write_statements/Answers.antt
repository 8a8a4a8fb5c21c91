-- `write::statements::write_statements` meets its contract. The loop's invariant is `Stating`; the measure is the words that are left.
-- Assumes nothing.
use Rattle.std.proofs.Common.{arith}
use Rattle.write.proofs.StatementLaws.{stating-begins, stating-ends, stating-room, stating-within, stating-falls, stating-on}
use Rattle.write.proofs.statements.write_statements.Goals as goal

pub loop-at-init : goal.loop-at-init
loop-at-init c = rw c.new-pen.ensures.to (stating-begins c.requires)

pub write_statement-at-requires : goal.write_statement-at-requires
write_statement-at-requires c =
    stating-room c.loop-at.invariant c.loop-at-test.true

pub overflow_add-at : goal.overflow_add-at
overflow_add-at c =
    let e = c.write_statement-at.ensures in
    omega (arith, stating-within c.loop-at.invariant c.loop-at-test.true e.value (e.list_after, e.to_after))

pub loop-at-smaller : goal.loop-at-smaller
loop-at-smaller c =
    let e = c.write_statement-at.ensures in
    stating-falls c.loop-at.invariant c.loop-at-test.true e.value (e.list_after, e.to_after)

pub loop-at-preserved : goal.loop-at-preserved
loop-at-preserved c =
    let e = c.write_statement-at.ensures in
    stating-on c.loop-at.invariant c.loop-at-test.true e.value (e.list_after, e.to_after)

pub returns : goal.returns
returns c =
    stating-ends c.loop-at.invariant c.loop-at-test.false
