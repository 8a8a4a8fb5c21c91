-- `derived::with_word` meets its contract: the operator of a legal word without a host's bits is its low byte. Assumes nothing.
use Prim.Native.Nat.{ℕ, ◌%◌, ◌^◌}
use mathlib.Core.{Path.{◌≡◌, sym, ap, ◌∙◌}, Bool.{Bool, ◌||◌}}
use lib.Dec.{eqb}
use Rattle.molang.specs.{Parse.{in_halves}, Words.{low_of, number_in}}
use Rattle.words.specs.Fields.{operator_of}
use Rattle.derived.proofs.{WordLaws.{names-low}}
use Rattle.derived.proofs.with_word.Goals as goal

pub returns-then-is_low_operator : goal.returns-then-is_low_operator
unfolding operator_of
returns-then-is_low_operator c n =
    let a = c.args in
    let word = c.is_low_operator.ensures c.if-is_low_operator.true in
    let number : number_in (low_of a.w) ≡ a.w % 2 ^ 8 = word.number in
    c.with.ensures n
    ∙ ap (λ (b : Bool). in_halves a.used.low a.used.high n || b)
    (ap (λ (op : ℕ). eqb op n) (sym number) ∙ sym (names-low a.w n (sym word.legal) (rw number word.last)))

pub with-requires : goal.with-requires
with-requires c =
    (c.is_low_operator.ensures c.if-is_low_operator.true).last

pub returns : goal.returns
returns c =
    c.with_any.ensures
