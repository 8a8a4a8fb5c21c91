-- `liftcount::judge::judge` meets its contract: the checks of the count, then two readings. Assumes nothing.
use mir.Facts.{to_z-of_z}
use Rattle.liftcount.proofs.{JudgeLaws.{not-whole, too_many, open-fault}}
use Rattle.liftcount.proofs.judge.judge.Goals as goal

pub returns-then-words-ne0 : goal.returns-then-words-ne0
returns-then-words-ne0 c =
    let a = c.args in
    rw c.at.ensures (not-whole a.words a.list.now c.if-words-ne0.true _ _)

pub returns-then-words-gt-MOST_WORDS : goal.returns-then-words-gt-MOST_WORDS
returns-then-words-gt-MOST_WORDS c =
    let a = c.args in
    rw c.at-then-words-gt-MOST_WORDS.ensures (too_many a.words a.list.now c.if-words-ne0.false c.if-words-gt-MOST_WORDS.true _ _)

pub returns : goal.returns
returns c =
    let a = c.args in
    rw (open-fault a.words a.list.now c.if-words-ne0.false c.if-words-gt-MOST_WORDS.false)
    (rw (to_z-of_z c.ranges.from, to_z-of_z c.ranges.to) at c.read_twice.ensures)
