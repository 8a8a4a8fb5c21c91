-- `stackorder::fault::StackOrder::fits` meets its contract: case by case. Assumes nothing.
use mathlib.Core.{Path.{◌≡◌, refl, sym}, Bool.{true}}
use native.Mathlib.{Numerals.{add-one}, Omega.{arith}}
use borrow.Author.Tests.{le-leb, lt-leb}
use Rattle.molang.specs.{Words.{low_of}, WriteEntry.{most_nodes}, StackOrder.{stack_after, trees_asked, least_nodes}}
use Rattle.molang.proofs.Trees.{and-true-true}
use Rattle.shape.{specs.Answers.{field_of}, proofs.CaseLaws.{neither}}
use Rattle.stackorder.specs.Faults.{order_fits}
use Rattle.stackorder.proofs.fault.StackOrderWalk.fits.Goals as goal

pub returns-in-Operator : goal.returns-in-Operator
unfolding stack_after trees_asked least_nodes
returns-in-Operator c = rw (c.in-Operator.is, le-leb 0 c.args.self.done (omega arith)) refl

pub returns-then-self-asked : goal.returns-then-self-asked
unfolding trees_asked
returns-then-self-asked c =
    rw (c.in-Count.is, lt-leb (low_of c.args.w) c.args.self.done (omega (arith, c.if-self-asked.true, c.low-asked.ensures))) refl

pub returns-else-self-asked : goal.returns-else-self-asked
unfolding stack_after trees_asked
returns-else-self-asked c =
    let asked = le-leb (low_of c.args.w) c.args.self.done (omega (arith, c.if-self-asked.false, c.low-asked.ensures)) in
    rw (c.in-Count.is, c.least_nodes.ensures, c.low-asked.ensures, add-one, asked) refl

pub returns-in_default : goal.returns-in_default
unfolding stack_after trees_asked least_nodes
returns-in_default c =
    let a = c.args in
    let holds = sym (and-true-true _ _ (le-leb 0 a.self.done (omega arith)) (le-leb a.self.begun most_nodes c.requires.1)) in
    neither (λ f. true ≡ order_fits (field_of f) a.w a.self) holds holds holds holds holds a.field c.in_default.not-Operator c.in_default.not-Count
