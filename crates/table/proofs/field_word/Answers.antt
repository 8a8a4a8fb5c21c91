-- `table::field_word` meets its contract: the parts of the first item, and the arguments. Assumes nothing.
use mathlib.Core.Path.{◌∙◌}
use native.Mathlib.Omega.{arith}
use Rattle.molang.specs.Lines.{record_of}
use Rattle.table.proofs.{MarkedLaws.{record-read, record-argument}}
use Rattle.table.proofs.field_word.Goals as goal

pub returns-in-0 : goal.returns-in-0
unfolding record_of
returns-in-0 c =
    rw (c.in-0.is, c.at.ensures) (record-read c.args.message.now 0)

pub returns-in-1 : goal.returns-in-1
unfolding record_of
returns-in-1 c =
    rw (c.in-1.is, c.at-in-1.ensures) (record-read c.args.message.now 1)

pub returns-in-2 : goal.returns-in-2
unfolding record_of
returns-in-2 c =
    rw (c.in-2.is, c.at-in-2.ensures) (record-read c.args.message.now 2)

pub returns-in_default : goal.returns-in_default
returns-in_default c = c.at-in_default.ensures ∙ record-argument c.args.message.now _ (omega arith) (omega arith)
