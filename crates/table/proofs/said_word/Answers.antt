-- `table::said_word` meets its contract: a word that the line says, or one after them. Assumes nothing.
use mathlib.Core.Path.{◌∙◌}
use Rattle.table.proofs.{MarkedLaws.{word-said, word_after}}
use Rattle.table.proofs.said_word.Goals as goal

pub returns-then-i-n : goal.returns-then-i-n
returns-then-i-n c =
    let a = c.args in
    c.word.ensures ∙ word-said a.said.now a.n a.rest a.i c.if-i-n.true

pub returns : goal.returns
returns c =
    let a = c.args in word_after a.said.now a.n a.rest a.i c.if-i-n.false
