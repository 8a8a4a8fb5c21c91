-- `words::checks::is_usual` meets its contract: the tests are those of the five words. Assumes nothing.
use mathlib.Core.Bool.{false≢true}
use Rattle.words.proofs.{CheckLaws.{tests-passed}}
use Rattle.words.proofs.checks.is_usual.Goals as goal

pub returns : goal.returns
returns c =
    let spanned = c.before.before in
    let low = spanned.before.before in
    let k = low.args.words in
    let first = low.is_low_operator.ensures spanned.if-not-is_low_operator.false in
    let spans = spanned.are_spans.ensures c.if-not-are_spans.false in
    λ e at. tests-passed at k.operator k.start k.end k.upper k.lower first spans (c.are_halves.ensures e)

pub returns-then-not-is_low_operator : goal.returns-then-not-is_low_operator
returns-then-not-is_low_operator c =
    λ e. absurd (false≢true e)

pub returns-then-not-are_spans : goal.returns-then-not-are_spans
returns-then-not-are_spans c =
    λ e. absurd (false≢true e)
