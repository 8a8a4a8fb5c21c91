-- WHAT THE WALK PROMISES: a tree that it reads is the one that the definition reads, with every source length; if it gives up, the tree
-- buffer is as it was, and nothing more is said.
use Rattle.std.specs.Prelude.{ℕ, ◌+◌, ◌*◌, ◌≤◌, ◌≡◌, Bool, List, ℤ, length}
use Rattle.std.proofs.Math.Option.{none}
use Rattle.molang.specs.Forest.{Token, Forest, nil, node, size}
use Rattle.molang.specs.Read as reading
use Rattle.molang.specs.Words.{tokens_of, tree_words, operator_field, words_refusal}
use Rattle.molang.specs.Parse.{most_tokens, in_front}

-- A list of n tokens without fault, and buffers as the parse entry asks for them.
pub record CanWalk (list W tree : List ℕ) (n : ℕ) : Type 0 where
  pub faultless : words_refusal 0 operator_field 0 list ≡ none
  pub tokens : length list ≡ 5 * n
  pub few : n ≤ most_tokens
  pub words : length W ≡ 64 * n + 64
  pub tree-room : 21 * n ≤ length tree

-- The definition reads a tree of so many nodes, and its words are the front of the tree buffer.
pub record TreeRead (list : List ℕ) (used : ℕ → Bool) (version : ℤ) (tree : List ℕ) (nodes : ℕ) (tree' : List ℕ) : Type 0 where
  pub root : Token
  pub children : Forest
  pub reads : (source_length : ℕ) → reading.read (tokens_of list) used version source_length ≡ reading.tree root children
  pub count : nodes ≡ size (node root children nil)
  pub words : tree' ≡ in_front (tree_words (node root children nil)) tree
