-- Reading on in a list under work: what the functions on its items ask and ensure. What is done stands the last first (`BackArray`), what
-- is unread in order (`Ahead`); `next_token` passes over the items without a token of the pass, which leaves every slot as it is.
use Rattle.std.specs.Prelude.{ℕ, ◌+◌, ◌^◌, ◌≤◌, ◌<◌, ◌≡◌, ◌⊎◌, Bool, true, false, List, eqb, length, Option, None, Some, if◌then◌else◌}
use Rattle.molang.specs.Forest.{Token, Forest, nil, node}
use Rattle.molang.specs.Free.{free, is_nil}
use Rattle.ops.specs.Classes.{shares}
use Rattle.nodes.specs.Store.{wd, slot_start, slot_end, classes_at, SegB, RepT, RepB, InArray}
use Rattle.nodes.specs.Slots.{op_at, is_leaf_at}
use Rattle.nodes.specs.declared.frames.List.{List as Items}
use Rattle.levels.specs.Passes.{moved_to, Covers}
use Rattle.levels.specs.declared.items.Found.{Found}
use Rattle.levels.specs.declared.items.Found.TheVariants.{Nothing, Children, Token as Leaf}

-- The n words from `at` on are the roots of d, which stands the last first.
pub record BackArray (W X : List ℕ) (at n lo hi : ℕ) (d : Forest) : Type 0 where
  pub ds : List ℕ
  pub seg : SegB W at ds
  pub count : n ≡ length ds
  pub rep : RepB W X ds lo hi d

-- The unread items of a list from the left: those from `read` on are the roots of f.
pub record Ahead (W X : List ℕ) (base read len lo hi : ℕ) (f : Forest) : Type 0 where
  pub n : ℕ
  pub count : read + n ≡ len
  pub array : InArray W X (base + read) n lo hi f

-- ---- `next_if`, `is_inner`

-- The next item, where there is one, is a slot.
pub record CanPeek (W : List ℕ) (l : Items) : Type 0 where
  pub behind : l.read ≤ l.len
  pub within : l.base + l.len ≤ length W
  pub slot : l.read < l.len → slot_end (wd W (l.base + l.read)) ≤ length W

-- The next item's slot, where it is of this operator.
unfoldable pub next_if : List ℕ → Items → ℕ → Option ℕ
next_if W l op =
    if eqb l.read l.len then None else (if eqb (op_at W (wd W (l.base + l.read))) op then Some (wd W (l.base + l.read)) else None)

-- The item has children, and one of the classes c is noted there.
unfoldable pub inner_at : List ℕ → ℕ → ℕ → Bool
inner_at W item c = elim (is_leaf_at W item) [ true ↦ false | false ↦ shares (classes_at W item) c ]

-- ---- `next_token`

-- The trees of d are done: the n items before `write`. The items before these may be what a pass holds otherwise, such as finished
-- statements.
pub record CanSeek (W : List ℕ) (l : Items) : Type 0 where
  pub X : List ℕ
  pub lo : ℕ
  pub m : ℕ
  pub hi : ℕ
  pub at : ℕ
  pub n : ℕ
  pub d : Forest
  pub rest : Forest
  pub done : BackArray W X at n lo m d
  pub reached : at + n ≡ l.base + l.write
  pub started : l.base ≤ at
  pub ahead : Ahead W X l.base l.read l.len m hi rest
  pub behind : l.write ≤ l.read
  pub below : slot_start hi ≤ l.base
  pub within : l.base + l.len ≤ length W
  pub small : length W < 2 ^ 32

-- Trees without a leaf of P went from what is unread to what is done.
pub data Passed (P : ℕ → Bool) : Forest → Forest → Forest → Forest → Type 0 where
  here : {d rest : Forest} → Passed P d rest d rest
  over : {d rest d' rest' cs : Forest} {k : Token} → free P (node k cs nil) ≡ true → Passed P (node k cs d) rest d' rest'
      → Passed P d (node k cs rest) d' rest'

-- Where reading stands, with the trees of d done and those of `rest` unread, from the slot m on.
pub record Seen (W' X : List ℕ) (l' : Items) (at lo m m' hi : ℕ) (d rest : Forest) : Type 0 where
  pub n : ℕ
  pub done : BackArray W' X at n lo m d
  pub reached : at + n ≡ l'.base + l'.write
  pub ahead : Ahead W' X l'.base l'.read l'.len m' hi rest

-- It stops at the end, or past a tree at the slot b with a leaf of P at or below it, which stands in the slots from a to m.
pub data SoughtTo (W' X : List ℕ) (l : Items) (at lo hi : ℕ) (P : ℕ → Bool) (d rest : Forest) : Found → Type 0 where
  none : {d' : Forest} {l' : Items} → l' ≡ moved_to l l'.read l'.write → l'.write ≤ l'.read → Passed P d rest d' nil
      → Seen W' X l' at lo hi hi hi d' nil
      → SoughtTo W' X l at lo hi P d rest (Nothing l')
  leaf : {d' rest' : Forest} {l' : Items} {b a m : ℕ} {k : Token} → l' ≡ moved_to l l'.read l'.write → l'.write < l'.read
      → Passed P d rest d' (node k nil rest')
      → P k.op ≡ true → RepT W' X b a m k nil → Seen W' X l' at lo a m hi d' rest'
      → SoughtTo W' X l at lo hi P d rest (Leaf l' b)
  tree : {d' rest' cs : Forest} {l' : Items} {b a m : ℕ} {k : Token} → l' ≡ moved_to l l'.read l'.write → l'.write < l'.read
      → Passed P d rest d' (node k cs rest')
      → is_nil cs ≡ false → free P cs ≡ false → RepT W' X b a m k cs → Seen W' X l' at lo a m hi d' rest'
      → SoughtTo W' X l at lo hi P d rest (Children l' b)

-- What `next_token` found of the operators that the classes c cover; all words but those of the list from `write` on are as they were.
pub record Sought (W : List ℕ) (l : Items) (c : ℕ) (r : Found) (W' : List ℕ) : Type 0 where
  pub to : (g : CanSeek W l) (P : ℕ → Bool) → Covers c P → SoughtTo W' g.X l g.at g.lo g.hi P g.d g.rest r
  pub same : (j : ℕ) → (j < l.base + l.write) ⊎ (l.base + l.len ≤ j) → wd W' j ≡ wd W j
  pub long : length W' ≡ length W
