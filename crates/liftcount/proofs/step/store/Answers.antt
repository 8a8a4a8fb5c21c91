-- `liftcount::step::store` meets its contract. Assumes nothing.
use mathlib.Core.Path.{ap, ◌∙◌}
use native.Mathlib.Omega.{arith}
use mir.Facts.{to_z-of_z}
use Rattle.liftcount.specs.Steps.{after_word}
use Rattle.liftcount.proofs.{StepLaws.{keeps, passes}}
use Rattle.liftcount.proofs.step.store.Goals as goal

pub returns-then-words-lt640 : goal.returns-then-words-lt640
returns-then-words-lt640 c =
    let a = c.args in
    c.after_word-run.ensures _
    ∙ rw (to_z-of_z c.ranges.from, to_z-of_z c.ranges.to, c.one_more-n.ensures)
    (ap after_word (keeps a.counts a.list.now a.w a.from a.to a.words c.requires))

pub returns-else-words-lt640 : goal.returns-else-words-lt640
returns-else-words-lt640 c =
    let a = c.args in
    c.after_word-run.ensures _
    ∙ rw (to_z-of_z c.ranges.from, to_z-of_z c.ranges.to, c.one_more-n.ensures)
    (ap after_word (passes a.counts a.list.now a.w a.from a.to a.words (omega (arith, c.if-words-lt640.false)) c.requires))
