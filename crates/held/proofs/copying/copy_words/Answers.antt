-- `held::copying::copy_words` meets its contract: the first i words are laid. Assumes nothing.
use Rattle.words.proofs.{RecordLaws.{none-laid}, LaidLaws.{laid_next}}
use Rattle.held.proofs.copying.copy_words.Goals as goal

pub loop-i-init : goal.loop-i-init
loop-i-init c = none-laid _ _

pub loop-i-preserved : goal.loop-i-preserved
loop-i-preserved c =
    let a = c.args in
    let here = c.loop-i in
    laid_next a.to.now here.to a.at a.from.now here.i c.requires c.loop-i-test.true here.invariant
