-- `nodes::slots::is_token` meets its contract: an operator below 256 is told by its bits, any other by its number. Assumes nothing.
use borrow.Author.{Tests.{eq-eqb, ne_eqb}, Rules.{rules}}
use Rattle.nodes.specs.Slots.{op_at}
use Rattle.nodes.proofs.{Tokens.{told-by-bits}}
use Rattle.nodes.proofs.slots.is_token.Goals as goal

pub returns-then-op-lt-FIRST_HOST : goal.returns-then-op-lt-FIRST_HOST
returns-then-op-lt-FIRST_HOST c =
    let a = c.args in
    rw (← c.first_of.ensures, eq-eqb _ 0 c.if-first_of-ne0.false, c.operator_bits_of.ensures)
    (told-by-bits (op_at a.work.now a.s) a.op (search rules))

pub returns : goal.returns
returns c =
    rw (← c.first_of.ensures, eq-eqb _ 0 c.if-first_of-ne0.false, ← c.operator_of.ensures)

pub returns-then-first_of-ne0 : goal.returns-then-first_of-ne0
returns-then-first_of-ne0 c =
    rw (← c.first_of.ensures, ne_eqb _ 0 c.if-first_of-ne0.true)
