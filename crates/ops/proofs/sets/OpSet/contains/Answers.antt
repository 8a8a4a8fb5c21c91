-- `ops::sets::OpSet::contains` meets its contract: an operator of the low half, of the high half, and any other number.
-- Assumes nothing.
use borrow.Author.Rules.{rules}
use Rattle.ops.proofs.{SetLaws.{in-low, in-high, past}}
use Rattle.ops.proofs.sets.OpSet.contains.Goals as goal

pub returns-then-op-lt64 : goal.returns-then-op-lt64
returns-then-op-lt64 c =
    let a = c.args in
    in-low a.self.low a.self.high (search rules) a.op (search rules)

pub returns-then-op-lt128 : goal.returns-then-op-lt128
returns-then-op-lt128 c =
    let a = c.args in
    in-high a.self.low a.self.high (search rules) a.op (search rules)

pub returns : goal.returns
returns c =
    let a = c.args in
    past a.self.low a.self.high (search rules) (search rules) a.op (search rules)
