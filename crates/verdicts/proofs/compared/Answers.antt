-- `verdicts::compared` meets its contract: another answer, other words, or neither. Assumes nothing.
use borrow.Author.Tests.{not-true, not-false}
use Rattle.molang.specs.FirstFailure.{must, first_of}
use Rattle.verdicts.specs.Verdicts.{verdict}
use Rattle.verdicts.proofs.compared.Goals as goal

pub returns-then-not-left : goal.returns-then-not-left
unfolding verdict must first_of
returns-then-not-left c =
    let a = c.args in
    rw (verdict, not-false a.told c.if-not-told.false-raw, not-true a.left c.if-not-left.true-raw)

pub returns : goal.returns
unfolding verdict must first_of
returns c =
    let a = c.args in
    rw (verdict, not-false a.told c.if-not-told.false-raw, not-false a.left c.if-not-left.false-raw)

pub returns-then-not-told : goal.returns-then-not-told
returns-then-not-told c =
    unfold verdict must first_of in rw (verdict, c.if-not-told.true)
