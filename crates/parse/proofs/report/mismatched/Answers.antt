-- `parse::report::mismatched` meets its contract: the record, argument by argument. Assumes nothing.
use mathlib.Core.Path.{refl}
use Rattle.parse.proofs.{RecordLaws.{with_first_lem, with-last, closer-read}}
use Rattle.parse.proofs.report.mismatched.Goals as goal

pub returns : goal.returns
returns c =
    let op = c.operator_of-op.ensures in
    with-last c.and.ensures (with_first_lem c.naming.ensures c.spanning.ensures refl op)
    (closer-read c.closer_of.ensures op) c.operator_of.ensures refl
