-- `table::next_mark` meets its contract.
use Rattle.std.proofs.Common.{sym, ◌∙◌, refl, arith}
use Rattle.table.proofs.MarkedLaws.{mark-here, mark-later, no_number}
use Rattle.table.proofs.next_mark.Goals as goal

pub loop-end-init : goal.loop-end-init
loop-end-init c = (refl, omega arith)

pub returns-then-is_mark : goal.returns-then-is_mark
returns-then-is_mark c =
    let is = sym c.is_mark.ensures ∙ c.if-is_mark.true in
    (sym (mark-here c.args.last c.args.numbers.now c.loop-end.end c.loop-end-test.true is) ∙ c.loop-end.invariant.0, omega arith)

pub loop-end-preserved : goal.loop-end-preserved
loop-end-preserved c =
    let is = sym c.is_mark.ensures ∙ c.if-is_mark.false in
    (sym (mark-later c.args.last c.args.numbers.now c.loop-end.end c.loop-end-test.true is) ∙ c.loop-end.invariant.0, omega arith)

pub returns : goal.returns
returns c =
    let none = no_number c.args.last c.args.numbers.now c.loop-end.end c.loop-end-test.false in
    (omega (arith, c.loop-end.invariant.0), omega arith)
