-- The write entry: what a call is given, where it is turned back (document 01, 'Where the entry turns a call back', answers 12-15), what it
-- answers and what it leaves in the lent list.
use Rattle.std.specs.Prelude.{ℕ, zero, suc, ◌+◌, ◌*◌, Bool, false, ◌&&◌, List, [], ◌∷◌, eqb, leb, length}
use Rattle.std.proofs.Math.Option.{Option, none, some}
use Rattle.molang.specs.Forest.{Token, Forest, nil, node}
use Rattle.molang.specs.Words.{Field, operator_field, start_field, end_field, upper_field, lower_field, count_field, close_field}
use Rattle.molang.specs.Words.{word_fault, variant_after, low_of, node_of, list_words, Refusal, row, with_number}
use Rattle.molang.specs.FirstFailure.{must, first_of}
use Rattle.molang.specs.Parse.{most_tokens, in_front}
use Rattle.molang.specs.Plain.{unplain_at}
use Rattle.molang.specs.Write.{written_tree}

-- The most nodes of a tree.
abbrev pub most_nodes : ℕ
most_nodes = 12288

-- The word after it, in the nodes of a tree.
unfoldable pub next_in_node : Field → Field
next_in_node operator_field = start_field
next_in_node start_field = end_field
next_in_node end_field = upper_field
next_in_node upper_field = lower_field
next_in_node lower_field = count_field
next_in_node count_field = close_field
next_in_node close_field = operator_field

-- How many nodes the words so far call for, and how many of them have begun.
pub record Shape : Type 0 where
  pub called : ℕ
  pub begun : ℕ

-- After one more word: an operator begins a node, a count calls for children.
unfoldable pub shape_after : Field → ℕ → Shape → Shape
shape_after operator_field w s = record { called = s.called; begun = suc s.begun }
shape_after start_field w s = s
shape_after end_field w s = s
shape_after upper_field w s = s
shape_after lower_field w s = s
shape_after count_field w s = record { called = s.called + low_of w; begun = s.begun }
shape_after close_field w s = s

-- The word can stand next in a tree of at most 12,288 nodes: it is legal, a node is still called for, and no more nodes are than fit.
unfoldable pub continues : Field → ℕ → Shape → ℕ → Bool
continues field v s w =
    elim (word_fault field v w) [
      | some n ↦ false
      | none ↦ leb (shape_after field w s).begun s.called && leb (shape_after field w s).called most_nodes
    ]

-- The words are a whole tree: a node has just ended and none is called for any more.
unfoldable pub is_whole : Field → Shape → Bool
is_whole operator_field s = eqb s.begun s.called
is_whole start_field s = false
is_whole end_field s = false
is_whole upper_field s = false
is_whole lower_field s = false
is_whole count_field s = false
is_whole close_field s = false

-- Answer 12's place: the first word that cannot continue a tree, or the word count where the words run out; i is the next word's index.
unfoldable pub tree_fault : ℕ → Field → ℕ → Shape → List ℕ → Option ℕ
tree_fault i field v s [] = must (is_whole field s) i
tree_fault i field v s (w ∷ ws) =
    first_of (must (continues field v s w) i ∷ tree_fault (suc i) (next_in_node field) (variant_after field v w) (shape_after field w s) ws ∷ [])

-- The first n trees of a list.
unfoldable pub first_trees : ℕ → Forest → Forest
first_trees zero f = nil
first_trees (suc n) nil = nil
first_trees (suc n) (node k cs rest) = node k cs (first_trees n rest)

-- The trees after them.
unfoldable pub other_trees : ℕ → Forest → Forest
other_trees zero f = f
other_trees (suc n) nil = nil
other_trees (suc n) (node k cs rest) = other_trees n rest

-- The trees of node words: each node takes as many of the trees after it as its count says.
unfoldable pub trees_of : List ℕ → Forest
trees_of [] = nil
trees_of (a ∷ []) = nil
trees_of (a ∷ b ∷ []) = nil
trees_of (a ∷ b ∷ c ∷ []) = nil
trees_of (a ∷ b ∷ c ∷ d ∷ []) = nil
trees_of (a ∷ b ∷ c ∷ d ∷ e ∷ []) = nil
trees_of (a ∷ b ∷ c ∷ d ∷ e ∷ n ∷ []) = nil
trees_of (a ∷ b ∷ c ∷ d ∷ e ∷ n ∷ g ∷ ws) =
    let after = trees_of ws in node (node_of a b c d e g) (first_trees (low_of n) after) (other_trees (low_of n) after)

-- A call's tree words and the list to fill.
pub record WriteCall : Type 0 where
  pub tree : List ℕ
  pub list : List ℕ

-- Answers 13-15 to a tree.
unfoldable pub forest_refusal : Forest → ℕ → Option Refusal
forest_refusal nil room = none
forest_refusal (node k cs rest) room =
    first_of
    (with_number 13 (unplain_at k cs)
    ∷ must (leb (length (written_tree k cs)) most_tokens) (row 14 0)
    ∷ must (leb (5 * length (written_tree k cs)) room) (row 15 0)
    ∷ [])

-- The table's last four lines, in their order.
unfoldable pub write_refusal : WriteCall → Option Refusal
write_refusal c =
    first_of
    (with_number 12 (tree_fault 0 operator_field 0 (record { called = 1; begun = 0 }) c.tree)
    ∷ forest_refusal (trees_of c.tree) (length c.list)
    ∷ [])

-- The tokens that are written of the first tree.
unfoldable pub written_tokens : Forest → List Token
written_tokens nil = []
written_tokens (node k cs rest) = written_tree k cs

-- What the caller is told: the token count, or a refusal.
pub data WriteTold : Type 0 where
  tokens : ℕ → WriteTold
  unwritten : ℕ → ℕ → WriteTold

-- What is told of a call that is turned back, or else of the tree that is written.
unfoldable pub write_told : Option Refusal → Forest → WriteTold
write_told (some r) f = unwritten r.number r.place
write_told none f = tokens (length (written_tokens f))

-- THE ANSWER to a call.
unfoldable pub write_answered : WriteCall → WriteTold
write_answered c = write_told (write_refusal c) (trees_of c.tree)

-- The written tokens fill the front of the list; a refusal leaves it as it was.
unfoldable pub list_in : Option Refusal → Forest → List ℕ → List ℕ
list_in (some r) f buffer = buffer
list_in none f buffer = in_front (list_words (written_tokens f)) buffer

-- THE LENT LIST after a call.
unfoldable pub list_after : WriteCall → List ℕ
list_after c = list_in (write_refusal c) (trees_of c.tree) c.list
