-- Answer 12 and what it leaves: words without fault are one tree in its layout; and what the loops over the words have seen.
use Prim.Native.Nat.{ℕ, suc, ◌+◌, ◌-◌, ◌*◌, ◌≤◌}
use mathlib.Core.{Path.{◌≡◌, ap}, List.{List}, Option.{none}}
use native.Mathlib.{Omega.{arith}}
use lib.ListN.{length, take}
use borrow.Author.Tests.{eqb-true}
use Rattle.molang.specs.Words.{operator_field, low_of, node_of, token_words, node_words_of}
use Rattle.molang.specs.WriteEntry.{most_nodes, next_in_node, Shape, shape_after, is_whole, tree_fault}
use Rattle.molang.proofs.{NodeWalk.{along}, TreeWords.{tree_walk}}
use Rattle.shape.specs.Shaped.{Shaped, no_trees, a_node, most_children, OneTree}
use Rattle.words.specs.Tokens.{node_length}

-- Words without fault are as many trees as are still called for, and not too long.
unfaulted : (i v : ℕ) (s : Shape) (ws : List ℕ) → tree_fault i operator_field v s ws ≡ none → (p : ℕ) → s.called ≡ s.begun + p
    → s.called ≤ most_nodes
    → Shaped most_children p ws × (node_length * s.begun + length ws ≤ node_length * most_nodes)
unfolding next_in_node shape_after is_whole node_of node_words_of token_words
unfaulted =
    along tree_walk
    (λ s ws. (p : ℕ) → s.called ≡ s.begun + p → s.called ≤ most_nodes
    → Shaped most_children p ws × (node_length * s.begun + length ws ≤ node_length * most_nodes))
    (λ s h p q m.
    let none_left : p ≡ 0 = omega (arith, eqb-true s.begun s.called h) in (rw none_left no_trees, omega arith))
    (λ a b c d e n g ws s r operator counted later p q m.
    let rest = s.called - suc s.begun in
    let more : p ≡ suc rest = omega (arith, operator.0) in
    let x = later (low_of n + rest) (omega (arith, operator.0)) counted.1 in
    (rw more (a_node {n = n} (ap (take 5) r.words) (omega (arith, r.few)) x.0), omega (arith, x.1)))

-- What answer 12 leaves.
pub one-tree : (ws : List ℕ) → tree_fault 0 operator_field 0 (record { called = 1; begun = 0 }) ws ≡ none → OneTree ws
one-tree ws h =
    let x = unfaulted 0 0 (record { called = 1; begun = 0 }) ws h 1 (omega arith) (omega arith) in
    record { shaped = x.0; small = omega (arith, x.1) }
