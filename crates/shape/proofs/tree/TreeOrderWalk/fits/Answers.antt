-- `shape::tree::TreeOrder::fits` meets its contract: case by case. Assumes nothing.
use mathlib.Core.{Path.{◌≡◌, refl, sym}, Bool.{true, and-true}}
use native.Mathlib.Omega.{arith}
use borrow.Author.Tests.{le-leb}
use Rattle.molang.specs.{Words.{low_of}, WriteEntry.{shape_after}}
use Rattle.molang.proofs.Trees.{and-true-true}
use Rattle.shape.specs.{Answers.{field_of}, Trees.{tree_fits}}
use Rattle.shape.proofs.CaseLaws.{neither}
use Rattle.shape.proofs.tree.TreeOrderWalk.fits.Goals as goal

pub overflow_add-result : goal.overflow_add-result
overflow_add-result c = unfold low_of in omega (arith, c.low.ensures, c.requires.1)

pub returns-in-Operator : goal.returns-in-Operator
unfolding shape_after
returns-in-Operator c = rw (c.in-Operator.is, le-leb _ _ c.requires.1) (sym (and-true _))

pub returns-in-Count : goal.returns-in-Count
unfolding shape_after
returns-in-Count c = rw (c.in-Count.is, c.low.ensures, le-leb _ _ c.requires.0) refl

pub returns-in_default : goal.returns-in_default
unfolding shape_after
returns-in_default c =
    let a = c.args in
    let holds = sym (and-true-true _ _ (le-leb _ _ c.requires.0) (le-leb _ _ c.requires.1)) in
    neither (λ f. true ≡ tree_fits (field_of f) a.w a.self) holds holds holds holds holds a.field c.in_default.not-Operator c.in_default.not-Count
