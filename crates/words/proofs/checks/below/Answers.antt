-- `words::checks::below` meets its contract: one test. Assumes nothing.
use borrow.Author.Tests.{lt-ltb, le-ltb}
use Rattle.molang.specs.FirstFailure.{must}
use Rattle.words.proofs.checks.below.Goals as goal

pub returns-then-limit-low : goal.returns-then-limit-low
returns-then-limit-low c =
    unfold must in rw (le-ltb c.args.low c.args.limit c.if-limit-low.true)

pub returns : goal.returns
returns c =
    unfold must in rw (lt-ltb c.args.low c.args.limit c.if-limit-low.false)
