-- `words::checks::are_halves` meets its contract: the upper bits of both words are read off one number, and so are the lower. Assumes
-- nothing.
use mathlib.Core.Bool.{false≢true}
use native.Mathlib.Omega.{arith}
use borrow.Author.{Tests.{leb-true}}
use Rattle.words.proofs.{CheckLaws.{halves-good}}
use Rattle.words.proofs.checks.are_halves.Goals as goal

pub returns : goal.returns
returns c =
    let a = c.args in
    λ e. halves-good a.operator a.upper a.lower (omega arith) c.if-lower-upper.false (leb-true _ _ e)

pub returns-then-lower-upper : goal.returns-then-lower-upper
returns-then-lower-upper c =
    λ e. absurd (false≢true e)
