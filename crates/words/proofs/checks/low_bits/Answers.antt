-- `words::checks::low_bits` meets its contract: operator, payload variant, other bits, in this order. Assumes nothing.
use mathlib.Core.Path.{sym, ◌∙◌}
use borrow.Author.{Tests.{le-leb, lt-leb}}
use Rattle.molang.{specs.FirstFailure.{must, first_of}, proofs.FirstFailure.{last_one}}
use Rattle.words.proofs.{CheckLaws.{operator-tests}}
use Rattle.words.proofs.checks.low_bits.Goals as goal

pub returns-then-not-is_operator : goal.returns-then-not-is_operator
unfolding first_of must
returns-then-not-is_operator c =
    let numbered = c.before.before in
    rw (
      operator-tests numbered.args.w,
      ← numbered.operator.ensures,
      sym c.is_operator.ensures ∙ c.if-not-is_operator.true,
    )

pub returns-then-variant-gt-LAST_VARIANT : goal.returns-then-variant-gt-LAST_VARIANT
unfolding first_of must
returns-then-variant-gt-LAST_VARIANT c =
    let numbered = c.before.before.before.before in
    rw (
      operator-tests numbered.args.w,
      ← numbered.operator.ensures,
      sym c.is_operator.ensures ∙ c.if-not-is_operator.false,
      ← c.variant.ensures,
      lt-leb c.variant.result 12 c.if-variant-gt-LAST_VARIANT.true,
    )

pub returns : goal.returns
unfolding first_of must
returns c =
    let judged = c.before.before.before.before in
    let numbered = judged.before.before in
    c.below.ensures
    ∙ rw (
      operator-tests numbered.args.w,
      ← numbered.operator.ensures,
      sym judged.is_operator.ensures ∙ judged.if-not-is_operator.false,
      ← c.variant.ensures,
      le-leb c.variant.result 12 c.if-variant-gt-LAST_VARIANT.false,
      ← c.low-low.ensures,
    ) (sym (last_one _))
