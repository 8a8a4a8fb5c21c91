-- `ops::sets::OpSet::intersects` meets its contract: the low halves share an operator, or else the high halves tell. Assumes nothing.
use lib.Bits.{bit_and}
use borrow.Author.{Rules.{rules}, Tests.{ne_eqb}}
use Rattle.ops.proofs.{SetLaws.{common}}
use Rattle.ops.proofs.sets.OpSet.intersects.Goals as goal

pub returns-then-self-other-ne0 : goal.returns-then-self-other-ne0
returns-then-self-other-ne0 c =
    let a = c.args in
    let told = common a.self.low a.self.high a.other.low a.other.high (search rules) (search rules) (search rules) in
    let some = ne_eqb (bit_and a.self.low a.other.low) 0 c.if-self-other-ne0.true in
    rw some (rw some at told)

pub returns-else-self-other-ne0 : goal.returns-else-self-other-ne0
returns-else-self-other-ne0 c =
    let a = c.args in
    let told = common a.self.low a.self.high a.other.low a.other.high (search rules) (search rules) (search rules) in
    rw c.if-self-other-ne0.false at told
