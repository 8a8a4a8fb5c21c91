-- `stackorder::fault::StackOrder::after_node` meets its contract: by the operator and the count; the other words change nothing. Assumes
-- nothing.
use Prim.Native.Nat.{◌-◌}
use mathlib.Core.Path.{refl}
use native.Mathlib.{Numerals.{add-one}, Omega.{arith}}
use borrow.Author.Tests.{leb-true}
use Rattle.molang.specs.{Words.{low_of}, WriteEntry.{next_in_node}, StackOrder.{stack_after, trees_asked}}
use Rattle.molang.proofs.Trees.{both}
use Rattle.stackorder.proofs.fault.StackOrderWalk.after_node.Goals as goal

pub overflow_sub-result : goal.overflow_sub-result
unfolding stack_after trees_asked next_in_node
overflow_sub-result c =
    let fits = (c.requires.fitting 0 0 0 0 0 0).1.1.1.1.1.0 in
    omega (arith, leb-true (low_of c.args.count) c.args.self.done (both _ _ fits).0, c.low.ensures)

pub returns : goal.returns
unfolding stack_after next_in_node
returns c = λ a b x d e g. rw (c.low.ensures, add-one (c.args.self.done - low_of c.args.count), add-one c.args.self.begun) refl
