-- `held::faults::count_fault` meets its contract. Assumes nothing.
use Rattle.held.proofs.{FaultLaws.{count-last, count_next}}
use Rattle.held.proofs.faults.count_fault.Goals as goal

pub returns-then-held-ge-LAST_COUNT : goal.returns-then-held-ge-LAST_COUNT
returns-then-held-ge-LAST_COUNT c =
    rw c.at.ensures (count-last c.args.held c.if-held-ge-LAST_COUNT.true)

pub returns : goal.returns
returns c =
    count_next c.args.held c.if-held-ge-LAST_COUNT.false
