-- `parse::report::naming` meets its contract. Assumes nothing.
use mathlib.Core.Path.{refl}
use Rattle.parse.proofs.{RecordLaws.{with_first_lem}}
use Rattle.parse.proofs.report.naming.Goals as goal

pub returns : goal.returns
returns c = with_first_lem c.naming.ensures c.spanning.ensures c.operator_of.ensures refl
