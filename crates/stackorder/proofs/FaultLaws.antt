-- Answer 24: how many nodes a tree has at least, and a whole node that fits.
use Prim.Native.Nat.{ℕ, suc, ◌+◌, ◌-◌, ◌≤◌, ◌<◌}
use mathlib.Core.Path.{◌≡◌, refl}
use native.Mathlib.Omega.{arith}
use borrow.Author.Tests.{le-leb, lt-leb}
use Rattle.molang.specs.{Words.{count_field, low_of}, WriteEntry.{most_nodes, next_in_node}}
use Rattle.molang.specs.StackOrder.{Stack, stack_after, trees_asked, least_nodes}
use Rattle.molang.proofs.{Trees.{and-true-true}, StackWords.{least-within}}
use Rattle.shape.specs.Walks.{NodeFits}
use Rattle.stackorder.specs.declared.fault.StackOrder.{StackOrder}
use Rattle.stackorder.specs.Faults.{stack, order_after, order_fits}

-- With one tree done at the most, none joins them; with several, a count leaves them for one that does.
pub least-of-one : (s : Stack) → s.done ≤ 1 → s.begun ≡ least_nodes count_field s
least-of-one s h = unfold least_nodes in rw (least_nodes, le-leb _ _ h) refl

pub least-of-many : (s : Stack) → 1 < s.done → suc s.begun ≡ least_nodes count_field s
least-of-many s h = unfold least_nodes in rw (least_nodes, lt-leb _ _ h) refl

-- A node after which there is room for one more.
pub node-fits : (s : StackOrder) (n : ℕ) → low_of n ≤ s.done → s.begun + 2 ≤ most_nodes → NodeFits order_after order_fits n s
unfolding stack_after trees_asked least_nodes next_in_node
node-fits s n asked room =
    let begun = and-true-true _ _ (le-leb 0 s.done (omega arith)) (le-leb (suc s.begun) most_nodes (omega arith)) in
    let counted = (least-within count_field (stack_after count_field n (stack s.done (suc s.begun)))).1 in
    let few = and-true-true _ _ (le-leb (low_of n) s.done asked) (le-leb (least_nodes count_field (stack_after count_field n (stack s.done (suc s.begun)))) most_nodes (omega (arith, counted, room))) in
    let closed = and-true-true _ _ (le-leb 0 (suc (s.done - low_of n)) (omega arith)) (le-leb (suc s.begun) most_nodes (omega arith)) in
    λ a b c d e g. (begun, (begun, (begun, (begun, (begun, (few, (closed, tt)))))))
