-- `stackorder::refusal::roomy` meets its contract: the output is shorter, or not. Assumes nothing.
use mathlib.Core.Path.{sym}
use borrow.Author.Tests.{le-leb, lt-leb}
use Rattle.molang.proofs.FirstFailure.{must-true, must-false}
use Rattle.stackorder.proofs.refusal.roomy.Goals as goal

pub returns-then-output-words : goal.returns-then-output-words
returns-then-output-words c = rw c.at.ensures (sym (must-false _ _ (lt-leb _ _ c.if-output-words.true)))

pub returns : goal.returns
returns c = sym (must-true _ _ (le-leb _ _ c.if-output-words.false))
