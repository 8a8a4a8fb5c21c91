-- `words::checks::span_word` meets its contract: one test. Assumes nothing.
use Rattle.molang.specs.{FirstFailure.{must, first_of}, Words.{low_fault}}
use Rattle.words.proofs.checks.span_word.Goals as goal

pub returns-then-not-is_of : goal.returns-then-not-is_of
unfolding first_of must
returns-then-not-is_of c = rw (← c.is_of.ensures, c.if-not-is_of.true)

pub returns : goal.returns
unfolding first_of must low_fault
returns c = rw (← c.is_of.ensures, c.if-not-is_of.false)
