-- `shape::tree::TreeOrder::after` meets its contract: case by case. Assumes nothing.
use mathlib.Core.Path.{◌≡◌, refl}
use native.Mathlib.{Omega.{arith}}
use Rattle.molang.specs.{Words.{low_of}, WriteEntry.{shape_after}}
use Rattle.shape.specs.{Answers.{field_of}, Trees.{tree_stepped}}
use Rattle.shape.proofs.CaseLaws.{neither}
use Rattle.shape.proofs.tree.TreeOrderWalk.after.Goals as goal

pub overflow_add-result : goal.overflow_add-result
overflow_add-result c = unfold low_of in omega (arith, c.low.ensures, c.requires.holds.1)

pub returns-in-Operator : goal.returns-in-Operator
unfolding shape_after
returns-in-Operator c = rw (c.begun_after.ensures c.args.self.called c.args.w, c.in-Operator.is) refl

pub returns-in-Count : goal.returns-in-Count
unfolding shape_after
returns-in-Count c = rw (c.in-Count.is, c.low.ensures) refl

pub returns-in_default : goal.returns-in_default
unfolding shape_after
returns-in_default c =
    let a = c.args in
    neither (λ f. a.self ≡ tree_stepped (field_of f) a.w a.self) refl refl refl refl refl a.field c.in_default.not-Operator c.in_default.not-Count
