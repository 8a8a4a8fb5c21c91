-- An operator of a binary level takes its sides: what the functions on it ask, and the words that they leave.
use Rattle.std.specs.Prelude.{ℕ, ◌+◌, ◌-◌, ◌≤◌, ◌<◌, ◌≡◌, ◌≢◌, true, false, List, length, set}
use Rattle.std.proofs.Math.Option.{some}
use Rattle.molang.specs.Operator.{is_one_of}
use Rattle.molang.specs.Forest.{Token, Forest, nil, node}
use Rattle.molang.specs.Binary.{first_leaf}
use Rattle.ops.specs.Classes.{shares}
use Rattle.ops.specs.declared.classes.TokenClasses.{TokenClasses}
use Rattle.nodes.specs.Store.{wd, slot_start, slot_end, classes_at, TokenAt, RepT}
use Rattle.nodes.specs.Children.{AttachedTwo}
use Rattle.nodes.specs.declared.frames.List.{List as Items}
use Rattle.levels.specs.Passes.{walk_of, moved_to, Covers}
use Rattle.levels.specs.Items.{inner_at}
use Rattle.levels.specs.declared.turns.Pass.TheVariants.{Binary}
use Rattle.levels.specs.declared.turns.Turn.{Turn}
use Rattle.levels.specs.declared.turns.Turn.TheVariants.{On, Enter}
use Rattle.passes.specs.TokenTurns.{AtToken}

-- The last done item: the left side.
abbrev pub left_of : List ℕ → Items → ℕ
left_of W v = wd W (v.base + v.write - 1)

-- ---- `fold`

-- There is a done item. That item, q and c are slots within the words, and the item is not c.
pub record CanFold (W : List ℕ) (v : Items) (q c : ℕ) : Type 0 where
  pub some : 0 < v.write
  pub room : v.base + v.write ≤ length W
  pub own : slot_end q ≤ length W
  pub left : slot_end (left_of W v) ≤ length W
  pub right : slot_end c ≤ length W
  pub apart : left_of W v ≢ c

-- The last done item and c are the children of q, which stands in the word of that item.
pub record Folded (W : List ℕ) (v : Items) (q c : ℕ) (W' : List ℕ) : Type 0 where
  pub mid : List ℕ
  pub two : AttachedTwo W q (left_of W v) c mid
  pub put : W' ≡ set mid (v.base + v.write - 1) q

-- ---- `first_leaf`

-- A tree stands at the slot `top`, and it notes a class of c.
pub record CanSearch (W : List ℕ) (top c : ℕ) : Type 0 where
  pub X : List ℕ
  pub a : ℕ
  pub m : ℕ
  pub k : Token
  pub cs : Forest
  pub tree : RepT W X top a m k cs
  pub within : slot_start m ≤ length W
  pub some : shares (classes_at W top) c ≡ true

-- r is the slot of the first leaf of f that is one of ops.
pub record IsFirst (W : List ℕ) (r : ℕ) (ops : List ℕ) (f : Forest) : Type 0 where
  pub t : Token
  pub first : first_leaf ops f ≡ some t
  pub token : TokenAt W r t

-- r is the slot of the first leaf at or below `top` of the operators that the classes c cover.
abbrev pub LeafFound : List ℕ → ℕ → ℕ → ℕ → Type 0
LeafFound W top c r = (g : CanSearch W top c) (ops : List ℕ) → Covers c (is_one_of ops) → IsFirst W r ops (node g.k g.cs nil)

-- ---- `folded`

-- The operator at the slot b has both sides, and nothing unfolded is below the left one.
pub record CanOperate (W : List ℕ) (v : Items) (b c : ℕ) : Type 0 where
  pub token : AtToken W v b
  pub some : 0 < v.write
  pub more : v.read < v.len
  pub clean : shares (classes_at W (left_of W v)) c ≡ false

-- The right side's children come first, or the operator takes both sides.
pub data Operated (W : List ℕ) (v : Items) (b : ℕ) (classes : TokenClasses) (r : Turn) (W' : List ℕ) : Type 0 where
  opens : inner_at W (wd W (v.base + v.read)) classes.0 ≡ true → W' ≡ W
      → r ≡ Enter (walk_of (moved_to v (v.read + 1) v.write) (Binary classes b)) (wd W (v.base + v.read)) → Operated W v b classes r W'
  folds : inner_at W (wd W (v.base + v.read)) classes.0 ≡ false → Folded W v b (wd W (v.base + v.read)) W'
      → r ≡ On (walk_of (moved_to v (v.read + 1) v.write) (Binary classes 0)) → Operated W v b classes r W'
