-- Answer 24's walk is one.
use Rattle.std.specs.Prelude.{ℕ, ◌+◌, ◌≤◌, ◌≡◌, refl, true}
use native.Mathlib.Omega.{arith}
use borrow.Author.Tests.{leb-true}
use Rattle.molang.specs.{Words.{Field}, WriteEntry.{most_nodes, next_in_node}}
use Rattle.molang.specs.StackOrder.{Stack, stack_after, least_nodes, stack_continues, stack_fault}
use Rattle.molang.proofs.{Trees.{both}, NodeWalk.{by_field}, StackWords.{least-within}}
use Rattle.shape.specs.Walks.{IsWalk}
use Rattle.stackorder.specs.Faults.{stack_in, order_start, order_after, order_fits, order_whole, order_faults, uncounted, OrderHolds}
use Rattle.stackorder.specs.declared.fault.StackOrder.{StackOrder}

-- No more trees are done than nodes have begun, apart from the one whose count is still to come.
enough-after : (f : Field) (w : ℕ) (s : Stack) → s.done + uncounted f ≤ s.begun
    → (stack_after f w s).done + uncounted (next_in_node f) ≤ (stack_after f w s).begun
unfolding stack_after next_in_node
enough-after f w s =
    by_field (λ f. s.done + uncounted f ≤ s.begun → (stack_after f w s).done + uncounted (next_in_node f) ≤ (stack_after f w s).begun)
    (λ h. omega arith) (λ h. h) (λ h. h) (λ h. h) (λ h. h) (λ h. omega arith) (λ h. h) f

-- What holds is kept by a word that fits.
kept : (field : Field) (w : ℕ) (s : StackOrder) → OrderHolds field s → order_fits field w s ≡ true
    → OrderHolds (next_in_node field) (order_after field w s)
kept field w s h e =
    let after = stack_after field w (stack_in s) in
    let few = leb-true (least_nodes field after) most_nodes (both _ _ e).1 in
    (enough-after field w (stack_in s) h.0, omega (arith, few, (least-within field after).0))

pub order_walks : IsWalk order_start order_after order_fits order_whole order_faults OrderHolds
unfolding stack_fault stack_continues
order_walks =
    record {
      starts = (omega arith, omega arith);
      kept = kept;
      at_end = λ i field v s. refl;
      at_word = λ i field v s w ws. refl;
    }
