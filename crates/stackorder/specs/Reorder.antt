-- The walk that puts a tree's nodes into the other order: what it promises, by the definition's two orders, and what each of its turns
-- does. A node is known by its end, the index after its seven words.
use Rattle.std.specs.Prelude.{ℕ, ◌+◌, ◌-◌, ◌^◌, ◌≤◌, ◌<◌, ◌≡◌, ◌≢◌, List, [], ◌∷◌, ◌++◌, length, get_or, set}
use Rattle.molang.specs.Forest.{Forest, nil, node}
use Rattle.molang.specs.Words.{low_of, tree_words}
use Rattle.molang.specs.Parse.{in_front}
use Rattle.molang.specs.StackOrder.{stack_words, IsOneTree}
use Rattle.words.specs.Records.{laid_at}
use Rattle.words.specs.Tokens.{token_words_at, five_words, node_length}
use Rattle.shape.specs.Shaped.{count_index, close_index}
use Rattle.stackorder.specs.declared.reorder.Direction.{Direction}
use Rattle.stackorder.specs.declared.reorder.Direction.TheVariants.{Forward, Backward}
use Rattle.stackorder.specs.declared.reorder.Cursor.{Cursor}

-- ---- `reorder`

-- The words of trees in the order that is read.
abbrev pub read_in : Direction → Forest → List ℕ
read_in Forward f = tree_words f
read_in Backward f = stack_words f

-- The words of trees in the order that is written.
abbrev pub written_in : Direction → Forest → List ℕ
written_in Forward f = stack_words f
written_in Backward f = tree_words f

-- The words W are one tree in the order that is read, and the output O has room for them.
pub record CanReorder (d : Direction) (W O : List ℕ) : Type 0 where
  pub one : IsOneTree (read_in d) W
  pub room : length W ≤ length O

-- The tree's words in the other order are the front of the output; the rest is as it was.
abbrev pub HasReordered : Direction → List ℕ → List ℕ → List ℕ → Type 0
HasReordered d W O O' = (t : IsOneTree (read_in d) W) → O' ≡ in_front (written_in d (node t.root t.children nil)) O

-- ---- ends

-- The opposite direction.
abbrev pub other_way : Direction → Direction
other_way Forward = Backward
other_way Backward = Forward

-- The end of the first node of so many words.
abbrev pub first_end : Direction → ℕ → ℕ
first_end Forward words = node_length
first_end Backward words = words

-- The end of the next node.
abbrev pub next_end : Direction → ℕ → ℕ
next_end Forward to = to + node_length
next_end Backward to = to - node_length

-- A node that ends at `to` lies within so many words.
abbrev pub EndsIn : ℕ → ℕ → Type 0
EndsIn words to = (node_length ≤ to) × (to ≤ words)

-- The words of a node that stands from `at` on.
abbrev pub node_at : List ℕ → ℕ → List ℕ
node_at W at = five_words (token_words_at W at) ++ (get_or W (at + count_index) 0 ∷ get_or W (at + close_index) 0 ∷ [])

-- How many children it has.
abbrev pub children_at : List ℕ → ℕ → ℕ
children_at W at = low_of (get_or W (at + count_index) 0)

-- ---- a turn

-- What a turn asks, of so many words and an output of so many: the next node to be written, the innermost open node and the node in whose
-- words the next one can wait end within the words; if no child is left one waits, else one is unread.
pub record CanTurn (d : Direction) (words output : ℕ) (c : Cursor) : Type 0 where
  pub room : words ≤ output
  pub few : words < 2 ^ 32
  pub written : EndsIn words c.written
  pub node : EndsIn words c.node
  pub free : EndsIn words c.free
  pub waits : c.left ≡ 0 → EndsIn words (next_end d c.free)
  pub unread : c.left ≢ 0 → EndsIn words c.read

-- The node of W that ends at `from`, copied to the output's words that end at `to`.
abbrev pub copied : List ℕ → ℕ → ℕ → List ℕ → List ℕ
copied W from to O = laid_at (to - node_length) (node_at W (from - node_length)) O

-- The innermost open node is out, and the last one that waits in O is the innermost.
abbrev pub on_leaving : Direction → List ℕ → Cursor → Cursor
on_leaving d O c =
    record {
      read = c.read;
      written = next_end d c.written;
      free = next_end d c.free;
      node = get_or O (next_end d c.free - node_length) 0;
      left = get_or O (next_end d c.free - node_length + 1) 0;
    }

-- A leaf is read and out.
abbrev pub on_passing : Direction → Cursor → Cursor
on_passing d c =
    record {
      read = next_end d c.read;
      written = next_end d c.written;
      free = c.free;
      node = c.node;
      left = c.left - 1;
    }

-- A node with so many children is read and the innermost.
abbrev pub on_entering : Direction → ℕ → Cursor → Cursor
on_entering d children c =
    record {
      read = next_end d c.read;
      written = c.written;
      free = next_end (other_way d) c.free;
      node = c.read;
      left = children;
    }

-- The output in which the node that was the innermost waits, with the children that are left after the one that is entered.
abbrev pub waiting : Cursor → List ℕ → List ℕ
waiting c O = set (set O (c.free - node_length) c.node) (c.free - node_length + 1) (c.left - 1)

-- What a turn does: the innermost open node goes out, a leaf goes out, or a node with children is entered.
pub data Turned (d : Direction) (W O : List ℕ) (c : Cursor) (r : Cursor) (O' : List ℕ) : Type 0 where
  leaves : c.left ≡ 0 → r ≡ on_leaving d O c → O' ≡ copied W c.node c.written O → Turned d W O c r O'
  passes : c.left ≢ 0 → children_at W (c.read - node_length) ≡ 0
      → r ≡ on_passing d c → O' ≡ copied W c.read c.written O → Turned d W O c r O'
  enters : c.left ≢ 0 → children_at W (c.read - node_length) ≢ 0
      → r ≡ on_entering d (children_at W (c.read - node_length)) c → O' ≡ waiting c O → Turned d W O c r O'
