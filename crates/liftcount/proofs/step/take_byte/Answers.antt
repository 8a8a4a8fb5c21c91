-- `liftcount::step::take_byte` meets its contract. Assumes nothing.
use mathlib.Core.Path.{◌∙◌}
use Rattle.liftcount.specs.Running.{state_of}
use Rattle.liftcount.proofs.{StepLaws.{byte-held, byte-fourth}}
use Rattle.liftcount.proofs.step.take_byte.Goals as goal

pub returns-then-held-lt3 : goal.returns-then-held-lt3
returns-then-held-lt3 c =
    let a = c.args in
    byte-held (state_of a.run a.list.now) a.b c.if-held-lt3.true

pub returns : goal.returns
returns c =
    let a = c.args in
    c.take_word.ensures ∙ byte-fourth (state_of a.run a.list.now) a.b c.if-held-lt3.false
