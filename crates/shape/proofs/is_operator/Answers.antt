-- `shape::is_operator` meets its contract, test by test. Assumes nothing.
use mathlib.Core.Path.{sym, ◌∙◌}
use Rattle.shape.proofs.{CaseLaws.{other-kind, high-variant, by_number}}
use Rattle.shape.proofs.is_operator.Goals as goal

pub returns-then-variant-gt-LAST_VARIANT : goal.returns-then-variant-gt-LAST_VARIANT
returns-then-variant-gt-LAST_VARIANT c = sym (high-variant c.args.w (rw c.variant.ensures at c.if-variant-gt-LAST_VARIANT.true))

pub returns : goal.returns
returns c =
    c.is_operator.ensures
    ∙ rw c.operator.ensures
    (sym (by_number c.args.w c.if-w-ne8192.false
    (rw c.variant.ensures at c.if-variant-gt-LAST_VARIANT.false)))

pub returns-then-w-ne8192 : goal.returns-then-w-ne8192
returns-then-w-ne8192 c =
    sym (other-kind c.args.w c.if-w-ne8192.true)
