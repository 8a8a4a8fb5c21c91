-- `liftlists::step::pass` meets its contract. Assumes nothing.
use Rattle.liftlists.proofs.{StepLaws.{opened-took, passed-took}}
use Rattle.liftlists.proofs.step.pass.Goals as goal

pub returns : goal.returns
returns c = λ to list. passed-took _ to list c.if-w-lt-PAST_VERSIONS.false c.put_word-end.ensures

pub returns-then-w-lt-PAST_VERSIONS : goal.returns-then-w-lt-PAST_VERSIONS
returns-then-w-lt-PAST_VERSIONS c =
    λ to list. opened-took _ _ _ to list c.if-w-lt-PAST_VERSIONS.true
