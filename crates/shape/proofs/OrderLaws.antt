-- A node in tree order: its operator begins it, its count calls for its children, and its other words change nothing.
use Prim.Native.Nat.{ℕ, suc, ◌+◌, ◌≤◌, ◌<◌}
use native.Mathlib.Omega.{arith}
use borrow.Author.Tests.{le-leb}
use Rattle.molang.specs.{Words.{low_of}, WriteEntry.{most_nodes, next_in_node, shape_after}}
use Rattle.molang.proofs.Trees.{and-true-true}
use Rattle.shape.specs.{declared.tree.TreeOrder.{TreeOrder}, Walks.{NodeFits}, Trees.{tree_stepped, tree_fits}}

pub node-fits : (s : TreeOrder) (n : ℕ) → s.begun < s.called → s.called ≤ most_nodes → s.called + low_of n ≤ most_nodes
    → NodeFits tree_stepped tree_fits n s
unfolding shape_after next_in_node
node-fits s n due few more =
    let before = and-true-true _ _ (le-leb (suc s.begun) s.called (omega arith)) (le-leb s.called most_nodes few) in
    let counted = and-true-true _ _ (le-leb (suc s.begun) s.called (omega arith)) (le-leb (s.called + low_of n) most_nodes more) in
    let after = and-true-true _ _ (le-leb (suc s.begun) (s.called + low_of n) (omega arith)) (le-leb (s.called + low_of n) most_nodes more) in
    λ a b c d e g. (before, (before, (before, (before, (before, (counted, (after, tt)))))))
