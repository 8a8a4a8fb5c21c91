-- `parse::report::not_closed` meets its contract. Assumes nothing.
use Rattle.parse.proofs.{RecordLaws.{with_first_lem, closer-read}}
use Rattle.parse.proofs.report.not_closed.Goals as goal

pub returns : goal.returns
returns c =
    let op = c.operator_of-op.ensures in
    with_first_lem c.naming.ensures c.at_slot.ensures (closer-read c.closer_of.ensures op) op
