-- Words that are a row of whole trees in document 01's layout: what answer 12 leaves, and what the later functions ask.
use Rattle.std.specs.Prelude.{ℕ, suc, ◌+◌, ◌*◌, ◌≤◌, ◌≡◌, List, [], ◌∷◌, length, get_or}
use Rattle.molang.specs.Words.{low_of, token_words, token_of}
use Rattle.molang.specs.WriteEntry.{most_nodes}
use Rattle.words.specs.Tokens.{node_length}

-- The child count is the last but one of a node's words.
abbrev pub count_index : ℕ
count_index = 5

-- Where the node closes is the last.
abbrev pub close_index : ℕ
close_index = 6

-- The token words that a list of words opens with.
unfoldable pub first_five : List ℕ → List ℕ
first_five ws = get_or ws 0 0 ∷ get_or ws 1 0 ∷ get_or ws 2 0 ∷ get_or ws 3 0 ∷ get_or ws 4 0 ∷ []

-- The words are so many trees, of at most so many children a node; each node's five words are those of a token.
pub data Shaped (most : ℕ) : ℕ → List ℕ → Type 0 where
  no_trees : Shaped most 0 []
  a_node : {trees a b c d e n g : ℕ} {ws : List ℕ} → token_words (token_of a b c d e) ≡ a ∷ b ∷ c ∷ d ∷ e ∷ [] → low_of n ≤ most
      → Shaped most (low_of n + trees) ws
      → Shaped most (suc trees) (a ∷ b ∷ c ∷ d ∷ e ∷ n ∷ g ∷ ws)

-- The largest child count that a word of kind 6 can hold.
abbrev pub most_children : ℕ
most_children = 16383

-- The words are one tree that is not too large.
pub record OneTree (ws : List ℕ) : Type 0 where
  pub shaped : Shaped most_children 1 ws
  pub small : length ws ≤ node_length * most_nodes
