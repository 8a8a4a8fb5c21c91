-- `parse::report::naming_math` meets its contract. Assumes nothing.
use Rattle.parse.proofs.{RecordLaws.{with_first_lem}}
use Rattle.parse.proofs.report.naming_math.Goals as goal

pub returns : goal.returns
returns c =
    with_first_lem c.naming.ensures c.at_slot.ensures c.operator_of.ensures
    c.host_value.ensures
