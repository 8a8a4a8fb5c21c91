-- `table::answers::kept_word` meets its contract: the mark of a refusal, and any other. Assumes nothing.
use borrow.Author.{Tests.{eq-eqb, ne_eqb}}
use Rattle.molang.specs.Lines.{refused_mark}
use Rattle.table.specs.Answers.{kept}
use Rattle.table.proofs.answers.kept_word.Goals as goal

pub returns-then-at-eq-REFUSED : goal.returns-then-at-eq-REFUSED
returns-then-at-eq-REFUSED c = unfold kept in rw (kept, ← c.at.ensures, eq-eqb c.at.result refused_mark c.if-at-eq-REFUSED.true)

pub returns : goal.returns
returns c = unfold kept in rw (kept, ← c.at.ensures, ne_eqb c.at.result refused_mark c.if-at-eq-REFUSED.false)
