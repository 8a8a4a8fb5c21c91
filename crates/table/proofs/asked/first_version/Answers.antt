-- `table::asked::first_version` meets its contract: the mark of a list that is read at 4, 5 and 6, and any other. Assumes nothing.
use borrow.Author.{Tests.{eq-eqb, ne_eqb}}
use Rattle.molang.specs.Lines.{any_mark}
use Rattle.table.specs.Asked.{first_version}
use Rattle.table.proofs.asked.first_version.Goals as goal

pub returns : goal.returns
unfolding first_version
returns c =
    rw (first_version, ne_eqb c.args.mark any_mark c.if-mark-eq-ANY.false) c.last_version.ensures.0

pub returns-then-mark-eq-ANY : goal.returns-then-mark-eq-ANY
returns-then-mark-eq-ANY c =
    unfold first_version in rw (first_version, eq-eqb c.args.mark any_mark c.if-mark-eq-ANY.true)
