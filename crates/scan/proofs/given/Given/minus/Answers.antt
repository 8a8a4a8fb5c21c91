-- `scan::given::Given::minus` meets its contract. Assumes nothing.
use native.Mathlib.Omega.{arith}
use Rattle.scan.proofs.{ClassLaws.{minus-prefix, minus-binary, minus-two, pair_far}}
use Rattle.scan.proofs.given.Given.minus.Goals as goal

pub returns-then-before-eq1 : goal.returns-then-before-eq1
returns-then-before-eq1 c =
    minus-prefix _ _ _ _ _ c.op_before.ensures c.entry_of.ensures c.if-before-eq1.true
    c.prefix.ensures

pub returns-then-before-eq2 : goal.returns-then-before-eq2
returns-then-before-eq2 c =
    minus-binary _ _ _ _ _ c.op_before.ensures c.entry_of.ensures c.if-before-eq2.true
    c.subtract.ensures

pub overflow_sub-at : goal.overflow_sub-at
overflow_sub-at c =
    let far = pair_far _ _ (c.is_pair.ensures c.if-is_pair.true) in
    omega (arith, far)

pub returns-then-is_pair : goal.returns-then-is_pair
returns-then-is_pair c =
    minus-two _ _ _ _ _ c.op_before.ensures c.entry_of.ensures c.if-before-eq1.false
    c.if-before-eq2.false
    (c.is_pair.ensures c.if-is_pair.true) c.operator.ensures
