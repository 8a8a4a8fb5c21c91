-- `words::checks::is_bare` meets its contract: the tests leave one word for each field but the span's. Assumes nothing.
use mathlib.Core.Bool.{false≢true}
use borrow.Author.Rules.{rules}
use Rattle.words.proofs.{CheckLaws.{bare-operator, bare-halves, tests-passed}}
use Rattle.words.proofs.checks.is_bare.Goals as goal

pub returns : goal.returns
returns c =
    let lower = c.before in
    let upper = lower.before.before in
    let most = upper.before.before in
    let least = most.before.before in
    let k = least.args.words in
    let first = bare-operator k.operator (search rules) (search rules) in
    let halves = bare-halves k.operator k.upper k.lower upper.if-words-ne2147483648.false lower.if-words-ne2684354560.false in
    λ e at. tests-passed at k.operator k.start k.end k.upper k.lower first (c.are_spans.ensures e) halves

pub returns-then-words-lt536870912 : goal.returns-then-words-lt536870912
returns-then-words-lt536870912 c =
    λ e. absurd (false≢true e)

pub returns-then-words-gt536871022 : goal.returns-then-words-gt536871022
returns-then-words-gt536871022 c =
    λ e. absurd (false≢true e)

pub returns-then-words-ne2147483648 : goal.returns-then-words-ne2147483648
returns-then-words-ne2147483648 c =
    λ e. absurd (false≢true e)

pub returns-then-words-ne2684354560 : goal.returns-then-words-ne2684354560
returns-then-words-ne2684354560 c =
    λ e. absurd (false≢true e)
