-- `verdicts::call` meets its contract: the mark of a tree to be written, and any other. Assumes nothing.
use borrow.Author.{Tests.{eq-eqb, ne_eqb}}
use Rattle.molang.specs.Lines.{write_mark}
use Rattle.verdicts.specs.Verdicts.{words_verdict}
use Rattle.verdicts.proofs.call.Goals as goal

pub returns-then-mark-eq-WRITE : goal.returns-then-mark-eq-WRITE
unfolding words_verdict
returns-then-mark-eq-WRITE c =
    rw (words_verdict, eq-eqb c.args.mark write_mark c.if-mark-eq-WRITE.true) c.write_tree.ensures

pub returns : goal.returns
unfolding words_verdict
returns c =
    rw (words_verdict, ne_eqb c.args.mark write_mark c.if-mark-eq-WRITE.false) c.read_at.ensures
