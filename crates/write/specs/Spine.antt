-- The first children of a tree, one below the other: they stand in a row in the words, and are written from the last one up.
use Rattle.std.specs.Prelude.{ℕ, suc, ◌+◌, ◌-◌, ◌≡◌, Bool, true, false, List, eqb, get_or}
use Rattle.write.specs.Reading.{operator_at, children_at}
use Rattle.write.specs.Seats.{is_paired, first_seat, if_true}
use Rattle.words.specs.Tokens.{node_length}
use Rattle.shape.specs.Shaped.{Shaped}
use Rattle.words.specs.Records.{laid_at}
use Rattle.words.specs.Extents.{wider}
use Rattle.words.specs.declared.extent.Extent.{Extent}
use Rattle.write.specs.Spelling.{pair_opener, pair_closer}

-- The first child of the node at a word gets an added pair.
unfoldable pub has_pair : List ℕ → ℕ → Bool
has_pair words at =
    is_paired (first_seat (operator_at words at) (children_at words at)) (operator_at words (at + node_length)) (children_at words (at +
    node_length))

-- The words of the list that a node of so many children puts before those of its first child: its token, where it has one child, and an
-- added opener.
unfoldable pub front_of : ℕ → Bool → ℕ
front_of children paired = if_true (eqb children 1) 5 + if_true paired 5

-- Those of the node at a word.
abbrev pub front_at : List ℕ → ℕ → ℕ
front_at words at = front_of (children_at words at) (has_pair words at)

-- The list with a pair over an extent around words that stand from `at` to `to`, or as it is.
abbrev pub with_pair : Bool → Extent → ℕ → ℕ → List ℕ → List ℕ
with_pair true e at to list = laid_at to (pair_closer e.end) (laid_at (at - 5) (pair_opener e.start e.end) list)
with_pair false e at to list = list

-- An extent with the span of the node that words open with taken in.
abbrev pub span_taken : Extent → List ℕ → Extent
span_taken e words = wider e (get_or words 1 0) (get_or words 2 0)

-- The words open with a tree of at most two children a node.
pub record Opens (words : List ℕ) : Type 0 where
  pub others : ℕ
  pub shaped : Shaped 2 (suc others) words

-- The node at a word is the tree's first child's first child and so on, and so many words of the list stand before its own.
pub data Spine (words : List ℕ) : ℕ → ℕ → Type 0 where
  the_root : Spine words 0 0
  first_child : {at front : ℕ} → Spine words at front → (children_at words at ≡ 0 → ⊥) → Spine words (at + node_length) (front + front_at
      words at)
