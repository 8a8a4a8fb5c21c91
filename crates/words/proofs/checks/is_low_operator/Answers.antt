-- `words::checks::is_low_operator` meets its contract, test by test. Assumes nothing.
use mathlib.Core.Bool.{false≢true}
use borrow.Author.Tests.{leb-true}
use Rattle.words.proofs.{CheckLaws.{low-operator}}
use Rattle.words.proofs.checks.is_low_operator.Goals as goal

pub returns : goal.returns
returns c =
    let w = c.args.w in λ e. low-operator w c.if-above-lt2097152.false c.if-above-gt2097164.false (leb-true _ _ e)

pub returns-then-above-lt2097152 : goal.returns-then-above-lt2097152
returns-then-above-lt2097152 c =
    λ e. absurd (false≢true e)

pub returns-then-above-gt2097164 : goal.returns-then-above-gt2097164
returns-then-above-gt2097164 c =
    λ e. absurd (false≢true e)
