-- What emission asks and ensures: the words of the trees of a chain, each parent before its children, laid out above the siblings that wait
-- meanwhile; and copied to the front of the caller's tree buffer.
use Rattle.std.specs.Prelude.{ℕ, ◌+◌, ◌*◌, ◌-◌, ◌^◌, ◌≤◌, ◌<◌, ◌≡◌, ◌≢◌, ◌⊎◌, List, length, set}
use Rattle.molang.specs.Forest.{Forest, size}
use Rattle.molang.specs.Words.{tree_words}
use Rattle.molang.specs.Parse.{most_tokens, in_front}
use Rattle.words.specs.Tokens.{node_length, node_words}
use Rattle.nodes.specs.Store.{wd, slot_start, slot_end, close_word_at, first_at, Chain, Seg, RepF}
use Rattle.nodes.specs.Stored.{stored_at, token_of_stored}
use Rattle.nodes.specs.Children.{CanFollow}

-- The trees of f are linked from the slot `first` on, below the slot hi.
pub record Linked (W : List ℕ) (first hi : ℕ) (f : Forest) : Type 0 where
  pub X : List ℕ
  pub bs : List ℕ
  pub lo : ℕ
  pub chain : Chain W first bs
  pub rep : RepF W X bs lo hi f

-- ---- `emit_node`

-- The slot s lies below the word `at`, from which on the words of a node are free; its children are a chain.
pub record CanEmitNode (W : List ℕ) (s at : ℕ) : Type 0 where
  pub below : slot_end s ≤ at
  pub room : at + node_length ≤ length W
  pub children : CanFollow W (first_at W s)

-- The node's words stand from `at` on; all other words are as they were.
pub record NodeEmitted (W : List ℕ) (s at : ℕ) (W' : List ℕ) : Type 0 where
  pub words : (cs : List ℕ) → Chain W (first_at W s) cs
      → Seg W' at (node_words (token_of_stored (stored_at W (slot_start s))) (length cs) (close_word_at W s))
  pub same : (j : ℕ) → (j < at) ⊎ (at + node_length ≤ j) → wd W' j ≡ wd W j
  pub long : length W' ≡ length W

-- ---- `node_after`

-- The node after one with this first child and next sibling, the top after it and the words after it, those that wait standing from `stack`
-- to `top`.
pub data Stepped (W : List ℕ) (child sibling stack top : ℕ) : ℕ → ℕ → List ℕ → Type 0 where
  over : {next : ℕ} → next ≡ sibling → child ≡ 0 → next ≢ 0 → Stepped W child sibling stack top next top W
  finish : {next : ℕ} → next ≡ sibling → child ≡ 0 → next ≡ 0 → top ≡ stack → Stepped W child sibling stack top next top W
  back : {next : ℕ} → next ≡ wd W (top - 1) → child ≡ 0 → sibling ≡ 0 → top ≢ stack → Stepped W child sibling stack top next (top - 1) W
  down : {next : ℕ} → next ≡ child → next ≢ 0 → sibling ≡ 0 → Stepped W child sibling stack top next top W
  waits : {next wait : ℕ} → next ≡ child → next ≢ 0 → wait ≡ sibling → wait ≢ 0
      → Stepped W child sibling stack top next (top + 1) (set W top wait)

-- ---- `emit`

-- The trees stand below the stack; the stack has a word for each node, and there is room for their words from `to` on.
pub record CanEmit (W : List ℕ) (first to stack : ℕ) : Type 0 where
  pub hi : ℕ
  pub trees : Forest
  pub linked : Linked W first hi trees
  pub below : slot_start hi ≤ stack
  pub spare : stack + size trees ≤ to
  pub room : to + node_length * size trees ≤ length W
  pub few : size trees < 2 ^ 14

-- The trees' words stand from `to` on; r is the number of their nodes. The words below the stack are as they were. The words between, where
-- siblings waited, and those after the trees' words are left free.
pub record Emitted (W : List ℕ) (first to stack r : ℕ) (W' : List ℕ) : Type 0 where
  pub count : (hi : ℕ) (f : Forest) → Linked W first hi f → r ≡ size f
  pub words : (hi : ℕ) (f : Forest) → Linked W first hi f → Seg W' to (tree_words f)
  pub same : (j : ℕ) → j < stack → wd W' j ≡ wd W j
  pub long : length W' ≡ length W

-- ---- `lay_out`

-- The trees made of n tokens, at most three nodes for each, and buffers as long as the entry asks.
pub record CanLayOut (W buffer : List ℕ) (root n : ℕ) : Type 0 where
  pub trees : Forest
  pub linked : Linked W root (3 * n + 3) trees
  pub nodes : size trees ≤ 3 * n
  pub few : n ≤ most_tokens
  pub work-room : 64 * n + 64 ≤ length W
  pub tree-room : 21 * n ≤ length buffer

-- The trees' words are the front of the tree buffer; the slots are as they were. The words above them, where the trees were laid out, are
-- left free.
pub record LaidOut (W buffer : List ℕ) (root n r : ℕ) (W' buffer' : List ℕ) : Type 0 where
  pub count : (f : Forest) → Linked W root (3 * n + 3) f → r ≡ size f
  pub words : (f : Forest) → Linked W root (3 * n + 3) f → buffer' ≡ in_front (tree_words f) buffer
  pub same : (j : ℕ) → j < 24 * n + 24 → wd W' j ≡ wd W j
  pub long : length W' ≡ length W
