-- `stackorder::fault::StackOrder::after` meets its contract: case by case. Assumes nothing.
use mathlib.Core.Path.{◌≡◌, refl}
use native.Mathlib.{Numerals.{add-one}, Omega.{arith}}
use borrow.Author.Tests.{leb-true}
use Rattle.molang.specs.Words.{low_of}
use Rattle.molang.{specs.StackOrder.{stack_after, trees_asked}, proofs.Trees.{both}}
use Rattle.shape.{specs.Answers.{field_of}, proofs.CaseLaws.{neither}}
use Rattle.stackorder.specs.Faults.{order_after}
use Rattle.stackorder.proofs.fault.StackOrderWalk.after.Goals as goal

pub overflow_sub-result : goal.overflow_sub-result
unfolding trees_asked
overflow_sub-result c =
    let fits = rw c.in-Count.is at c.requires.fitting in
    omega (arith, leb-true (low_of c.args.w) c.args.self.done (both _ _ fits).0, c.low.ensures)

pub returns-in-Operator : goal.returns-in-Operator
unfolding stack_after
returns-in-Operator c = rw (c.in-Operator.is, add-one) refl

pub returns-in-Count : goal.returns-in-Count
unfolding stack_after
returns-in-Count c = rw (c.in-Count.is, c.low.ensures, add-one) refl

pub returns-in_default : goal.returns-in_default
unfolding stack_after
returns-in_default c =
    let a = c.args in
    neither (λ f. a.self ≡ order_after (field_of f) a.w a.self) refl refl refl refl refl a.field c.in_default.not-Operator c.in_default.not-Count
