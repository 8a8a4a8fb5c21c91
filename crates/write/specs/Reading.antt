-- What a reader over the tree words reads at its position, and where it stands behind a node.
use Rattle.std.specs.Prelude.{ℕ, ◌+◌, ◌-◌, ◌≤◌, ◌<◌, ◌≡◌, Option, None, Some, List, length, get_or}
use Rattle.std.specs.Borrow.{Bor}
use Rattle.std.specs.Iterator.{Count, at_most}
use Rattle.molang.specs.Words.{low_of}
use Rattle.words.specs.Fields.{operator_of}
use Rattle.write.specs.declared.reader.TreeReader.{TreeReader}
use Rattle.write.specs.declared.reader.NodeView.{NodeView}
use Rattle.words.specs.Tokens.{node_length}
use Rattle.shape.specs.Shaped.{count_index}

-- The operator of the node that starts at a word; a word past the last reads as 0.
abbrev pub operator_at : List ℕ → ℕ → ℕ
operator_at words at = operator_of (get_or words at 0)

-- Its child count.
abbrev pub children_at : List ℕ → ℕ → ℕ
children_at words at = low_of (get_or words (at + count_index) 0)

-- The reader over these words at a position.
abbrev pub reader_at : Bor (List ℕ) → ℕ → TreeReader
reader_at words at = record { words = words; at = at }

-- What is seen of the node that starts at a word.
abbrev pub view_at : List ℕ → ℕ → NodeView
view_at words at =
    record { at = at; op = operator_at words at; children = children_at words at; next = operator_at words (at + node_length) }

-- A reader that passes a node stands behind it; where the words do not hold a whole node any more it stays.
abbrev pub PassesNode : TreeReader → Option NodeView → TreeReader → Type 0
PassesNode old (Some seen) new =
    (old.at + node_length ≤ length old.words.now)
    × (seen ≡ view_at old.words.now old.at)
    × (new ≡ reader_at old.words (old.at + node_length))
PassesNode old None new = (length old.words.now < old.at + node_length) × (new ≡ old)

-- No more nodes come than words are left.
abbrev pub words_left : TreeReader → Count
words_left reader = at_most (length reader.words.now - reader.at)
