-- `scan::given::Given::is_plain` meets its contract. Assumes nothing.
use Rattle.scan.proofs.{ListLaws.{plain-block, plain-seen}}
use Rattle.scan.proofs.given.Given.is_plain.Goals as goal

pub returns : goal.returns
returns c = plain-seen _ _ _ _ _ c.if-op-eq-LEFT_BRACE.false c.op_before.ensures c.entry_of.ensures

pub returns-then-op-eq-LEFT_BRACE : goal.returns-then-op-eq-LEFT_BRACE
returns-then-op-eq-LEFT_BRACE c =
    plain-block _ _ _ _ _ c.if-op-eq-LEFT_BRACE.true
