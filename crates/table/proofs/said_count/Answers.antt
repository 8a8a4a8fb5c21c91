-- `table::said_count` meets its contract: the line has this mark, or another. Assumes nothing.
use mathlib.Core.Path.{◌∙◌}
use Rattle.table.proofs.{MarkedLaws.{own-mark, not-own-mark}}
use Rattle.table.proofs.said_count.Goals as goal

pub returns-then-mark-at : goal.returns-then-mark-at
returns-then-mark-at c =
    let a = c.args in
    c.word_count.ensures ∙ own-mark a.mark _ a.said.now c.at.ensures c.if-mark-at.true

pub returns : goal.returns
returns c =
    let a = c.args in
    not-own-mark a.mark _ a.said.now c.at.ensures c.if-mark-at.false
