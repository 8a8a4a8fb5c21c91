-- The weight of a forest, which no pass raises (proofs/Passes): weighed by what a leaf may become, it bounds the nodes of a tree. Neither
-- reading nor writing uses this file: the theorem 'three nodes for each token' (proofs/Bounds) and the driver's contracts speak of it.
use Rattle.std.specs.Prelude.{ℕ, ◌+◌, ◌≤◌, true, false, eqb}
use Rattle.std.proofs.Common.{arith}
use Rattle.molang.specs.Operator
use Rattle.molang.specs.Forest.{Forest, nil, node}

-- What a leaf weighs by its operator, and a node with children besides those; a leaf that gets children becomes no heavier by itself.
pub record Weighing : Type 0 where
  pub leaf : ℕ → ℕ
  pub inner : ℕ
  pub lighter : (n : ℕ) → inner ≤ leaf n

-- The weight of all trees of the list.
unfoldable pub weight : Weighing → Forest → ℕ
weight W nil = 0
weight W (node k nil rest) = W.leaf k.op + weight W rest
weight W (node k (node c cs r) rest) = W.inner + weight W (node c cs r) + weight W rest

-- How many nodes a leaf may become: its own, two more for a `;` and one more for a `-`.
unfoldable pub nodes_of : ℕ → ℕ
nodes_of n = 1 + elim (eqb n Operator.semicolon) [ true ↦ 2 | false ↦ elim (eqb n Operator.negate) [ true ↦ 1 | false ↦ 0 ] ]

-- One at least.
pub nodes-some : (n : ℕ) → 1 ≤ nodes_of n
unfolding nodes_of
nodes-some n = omega arith

-- The nodes that a forest may become at most.
abbrev pub node_weight : Weighing
node_weight = record { leaf = nodes_of; inner = 1; lighter = nodes-some }
