-- `derived::with_any` meets its contract: a word that is not legal and one of a host leave the set as it is. Assumes nothing.
use Prim.Native.Nat.{ℕ}
use mathlib.Core.{Path.{◌≡◌, sym, ap, ◌∙◌}, Bool.{Bool, false, ◌||◌, or-false}}
use lib.Dec.{eqb}
use Rattle.molang.specs.{Parse.{in_halves}}
use Rattle.words.specs.{Fields.{operator_of}}
use Rattle.derived.proofs.{WordLaws.{good-word, names-bad, names-low, names-host}}
use Rattle.derived.proofs.with_any.Goals as goal

-- A word that names nothing leaves the set as it is.
unchanged : (used named : Bool) → named ≡ false → used ≡ (used || named)
unchanged used named e = sym (ap (λ (b : Bool). used || b) e ∙ or-false used)

pub returns-then-is_err : goal.returns-then-is_err
returns-then-is_err c n =
    let word = c.operator_word in
    unchanged _ _ (names-bad c.args.w n word.result (sym c.is_err.ensures.value ∙ c.if-is_err.true) word.ensures)

pub returns-then-op-gt-LAST_OPERATOR : goal.returns-then-op-gt-LAST_OPERATOR
unfolding operator_of
returns-then-op-gt-LAST_OPERATOR c n =
    let word = c.operator_word in
    let legal = sym word.ensures ∙ good-word word.result (sym c.is_err.ensures.value ∙ c.if-is_err.false) in
    unchanged _ _ (names-host c.args.w n legal (rw c.operator-op.ensures at c.if-op-gt-LAST_OPERATOR.true))

pub returns : goal.returns
unfolding operator_of
returns c n =
    let a = c.args in
    let word = c.operator_word in
    let legal = sym word.ensures ∙ good-word word.result (sym c.is_err.ensures.value ∙ c.if-is_err.false) in
    c.with.ensures n
    ∙ ap (λ (b : Bool). in_halves a.used.low a.used.high n || b)
    (ap (λ (op : ℕ). eqb op n) c.operator-op.ensures
    ∙ sym (names-low a.w n legal (rw c.operator-op.ensures at c.if-op-gt-LAST_OPERATOR.false)))
