-- `liftcount::judge::compared` meets its contract: the trees by their numbers of nodes and their words. Assumes nothing.
use mathlib.Core.Path.{ap, sym, ◌∙◌}
use Rattle.std.specs.Prelude.{Ok}
use Rattle.liftcount.specs.Judging.{trees_by}
use Rattle.liftcount.proofs.{JudgeLaws.{trees-other, trees-by}}
use Rattle.liftcount.proofs.judge.compared.Goals as goal

pub returns-then-n-m : goal.returns-then-n-m
returns-then-n-m c = rw (c.in-Tree-Tree.is-0, c.in-Tree-Tree.is-1) (ap Ok (trees-other _ _ c.args.tree.now c.args.again.now c.if-n-m.true))

pub returns-then-same_words : goal.returns-then-same_words
returns-then-same_words c =
    rw (c.in-Tree-Tree.is-0, c.in-Tree-Tree.is-1)
    (ap Ok (ap trees_by (sym c.if-same_words.true ∙ c.same_words.ensures) ∙ trees-by _ _ c.args.tree.now c.args.again.now c.if-n-m.false))

pub returns-else-same_words : goal.returns-else-same_words
returns-else-same_words c =
    rw (c.in-Tree-Tree.is-0, c.in-Tree-Tree.is-1)
    (ap Ok (ap trees_by (sym c.if-same_words.false ∙ c.same_words.ensures) ∙ trees-by _ _ c.args.tree.now c.args.again.now c.if-n-m.false))
