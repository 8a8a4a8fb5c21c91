-- Stack order (document 02, card 14): a tree's words with each node's seven after those of its children, in order. Export gives that order,
-- import takes it. Where either is turned back (answers 12 and 24, then 25), what it answers and what it leaves in the lent output.
use Rattle.std.specs.Prelude.{ℕ, suc, ◌-◌, ◌/◌, ◌≤◌, ◌≡◌, Bool, true, false, ◌&&◌, List, [], ◌∷◌, ◌++◌, eqb, leb, length, take}
use Rattle.std.proofs.Math.Option.{Option, none, some}
use Rattle.molang.specs.Forest.{Token, Forest, nil, node, count, size, in_order}
use Rattle.molang.specs.Words.{Field, operator_field, start_field, end_field, upper_field, lower_field, count_field, close_field}
use Rattle.molang.specs.Words.{word_fault, variant_after, low_of, node_words_of, node_of, tree_words, Refusal, row, with_number}
use Rattle.molang.specs.Legal.{LegalTrees}
use Rattle.molang.specs.FirstFailure.{must, first_of}
use Rattle.molang.specs.Parse.{in_front}
use Rattle.molang.specs.WriteEntry.{most_nodes, next_in_node, tree_fault, first_trees, other_trees, trees_of}

-- ---- The order

-- The words of trees in stack order.
unfoldable pub stack_words : Forest → List ℕ
stack_words nil = []
stack_words (node k cs rest) = stack_words cs ++ (node_words_of k (count cs) ++ stack_words rest)

-- The trees of words in stack order, `done` being those so far, the last first: each node takes as many of the last ones as its count says.
unfoldable pub stack_trees : Forest → List ℕ → Forest
stack_trees done [] = in_order done
stack_trees done (a ∷ []) = in_order done
stack_trees done (a ∷ b ∷ []) = in_order done
stack_trees done (a ∷ b ∷ c ∷ []) = in_order done
stack_trees done (a ∷ b ∷ c ∷ d ∷ []) = in_order done
stack_trees done (a ∷ b ∷ c ∷ d ∷ e ∷ []) = in_order done
stack_trees done (a ∷ b ∷ c ∷ d ∷ e ∷ n ∷ []) = in_order done
stack_trees done (a ∷ b ∷ c ∷ d ∷ e ∷ n ∷ g ∷ ws) =
    stack_trees (node (node_of a b c d e g) (in_order (first_trees (low_of n) done)) (other_trees (low_of n) done)) ws

-- ---- Answer 24

-- How many trees the words so far have done, and how many nodes have begun.
pub record Stack : Type 0 where
  pub done : ℕ
  pub begun : ℕ

-- After one more word: an operator begins a node, a count makes children of the last trees.
unfoldable pub stack_after : Field → ℕ → Stack → Stack
stack_after operator_field w s = record { done = s.done; begun = suc s.begun }
stack_after start_field w s = s
stack_after end_field w s = s
stack_after upper_field w s = s
stack_after lower_field w s = s
stack_after count_field w s = record { done = suc (s.done - low_of w); begun = s.begun }
stack_after close_field w s = s

-- The trees that a word asks for.
unfoldable pub trees_asked : Field → ℕ → ℕ
trees_asked operator_field w = 0
trees_asked start_field w = 0
trees_asked end_field w = 0
trees_asked upper_field w = 0
trees_asked lower_field w = 0
trees_asked count_field w = low_of w
trees_asked close_field w = 0

-- The nodes that one tree of the words so far has at least: where a count leaves several trees, one more node joins them.
unfoldable pub least_nodes : Field → Stack → ℕ
least_nodes operator_field s = s.begun
least_nodes start_field s = s.begun
least_nodes end_field s = s.begun
least_nodes upper_field s = s.begun
least_nodes lower_field s = s.begun
least_nodes count_field s = elim (leb s.done 1) [ true ↦ s.begun | false ↦ suc s.begun ]
least_nodes close_field s = s.begun

-- The word can stand next in a tree of at most 12,288 nodes: it is legal, as many trees are done as it asks for, and the tree fits.
unfoldable pub stack_continues : Field → ℕ → Stack → ℕ → Bool
stack_continues field v s w =
    elim (word_fault field v w) [
      | some n ↦ false
      | none ↦ leb (trees_asked field w) s.done && leb (least_nodes field (stack_after field w s)) most_nodes
    ]

-- The words are a whole tree: a node has just ended, and one tree is done.
unfoldable pub is_one_stack : Field → Stack → Bool
is_one_stack operator_field s = eqb s.done 1
is_one_stack start_field s = false
is_one_stack end_field s = false
is_one_stack upper_field s = false
is_one_stack lower_field s = false
is_one_stack count_field s = false
is_one_stack close_field s = false

-- Answer 24's place: the first word that cannot continue a tree, or the word count where the words run out; i is the next word's index.
unfoldable pub stack_fault : ℕ → Field → ℕ → Stack → List ℕ → Option ℕ
stack_fault i field v s [] = must (is_one_stack field s) i
stack_fault i field v s (w ∷ ws) =
    first_of
    (must (stack_continues field v s w) i
    ∷ stack_fault (suc i) (next_in_node field) (variant_after field v w) (stack_after field w s) ws
    ∷ [])

-- ---- The two entries

-- A call's words and the lent output.
pub record ReorderCall : Type 0 where
  pub words : List ℕ
  pub output : List ℕ

-- Answer 25: the output is shorter than the words.
unfoldable pub output_refusal : ReorderCall → Option Refusal
output_refusal c = must (leb (length c.words) (length c.output)) (row 25 0)

-- Where an export is turned back: answer 12, then 25.
unfoldable pub export_refusal : ReorderCall → Option Refusal
export_refusal c =
    first_of (with_number 12 (tree_fault 0 operator_field 0 (record { called = 1; begun = 0 }) c.words) ∷ output_refusal c ∷ [])

-- Where an import is turned back: answer 24, then 25.
unfoldable pub import_refusal : ReorderCall → Option Refusal
import_refusal c =
    first_of (with_number 24 (stack_fault 0 operator_field 0 (record { done = 0; begun = 0 }) c.words) ∷ output_refusal c ∷ [])

-- What the caller is told: the node count, or a refusal.
pub data ReorderTold : Type 0 where
  reordered : ℕ → ReorderTold
  not_reordered : ℕ → ℕ → ReorderTold

-- What is told of a call that is turned back, or else of its words.
unfoldable pub reorder_told : Option Refusal → List ℕ → ReorderTold
reorder_told (some r) ws = not_reordered r.number r.place
reorder_told none ws = reordered (length ws / 7)

-- The words fill the front of the output; a refusal leaves it as it was.
unfoldable pub output_in : Option Refusal → List ℕ → List ℕ → List ℕ
output_in (some r) ws output = output
output_in none ws output = in_front ws output

-- THE ANSWER to an export.
unfoldable pub export_answered : ReorderCall → ReorderTold
export_answered c = reorder_told (export_refusal c) c.words

-- THE LENT OUTPUT after an export.
unfoldable pub exported_after : ReorderCall → List ℕ
exported_after c = output_in (export_refusal c) (stack_words (trees_of c.words)) c.output

-- THE ANSWER to an import.
unfoldable pub import_answered : ReorderCall → ReorderTold
import_answered c = reorder_told (import_refusal c) c.words

-- THE LENT OUTPUT after an import.
unfoldable pub imported_after : ReorderCall → List ℕ
imported_after c = output_in (import_refusal c) (tree_words (stack_trees nil c.words)) c.output

-- ---- What is shown of them

-- The words are one tree of at most 12,288 nodes, in the order of `in_words`: `tree_words` or `stack_words`.
pub record IsOneTree (in_words : Forest → List ℕ) (ws : List ℕ) : Type 0 where
  pub root : Token
  pub children : Forest
  pub legal : LegalTrees (node root children nil)
  pub few : size (node root children nil) ≤ most_nodes
  pub words : ws ≡ in_words (node root children nil)

-- The words that a call left, handed on with another output.
unfoldable pub handed_on : (ReorderCall → List ℕ) → ReorderCall → List ℕ → ReorderCall
handed_on after c output = record { words = take (length c.words) (after c); output = output }

-- UNDONE: the second call of the words that the first left tells the same node count, and leaves the first call's words in front.
pub record Undone (told : ReorderCall → ReorderTold) (after : ReorderCall → List ℕ) (c again : ReorderCall) : Type 0 where
  pub tells : told again ≡ reordered (length c.words / 7)
  pub words : after again ≡ in_front c.words again.output
