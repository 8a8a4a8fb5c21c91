-- `table::answers::is_count` meets its contract: the mark is the line's, or another. Assumes nothing.
use mathlib.Core.Path.{ap}
use borrow.Author.{Tests.{eq-eqb, ne_eqb}}
use lib.Dec.{eqb}
use Rattle.table.specs.Answers.{is_count}
use Rattle.table.proofs.answers.is_count.Goals as goal

pub returns-then-mark-at : goal.returns-then-mark-at
unfolding is_count
returns-then-mark-at c =
    let a = c.args in
    rw (is_count, ← c.at.ensures, eq-eqb a.mark c.at.result c.if-mark-at.true) (ap (eqb a.n) c.count.ensures)

pub returns-else-mark-at : goal.returns-else-mark-at
unfolding is_count
returns-else-mark-at c =
    rw (is_count, ← c.at.ensures, ne_eqb c.args.mark c.at.result c.if-mark-at.false)
