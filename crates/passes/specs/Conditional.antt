-- What the functions of the conditional's fold ask and ensure, by the words. In the scan the unread items stand in [0, left), the done ones
-- in [right, len): a list of the unary pass's shape (`RightList`), which reads up to `left` and writes from `right` on.
use Rattle.std.specs.Prelude.{ℕ, ◌+◌, ◌-◌, ◌^◌, ◌≤◌, ◌<◌, ◌≡◌, ◌≢◌, Bool, true, false, List, length, set, Option, None, Some}
use Rattle.std.proofs.Math.Option as math
use Rattle.molang.specs.Operator.{conditional, conditional_else}
use Rattle.molang.specs.Forest.{Token, Forest}
use Rattle.molang.specs.Conditional as definition
use Rattle.nodes.specs.Store.{wd, slot_start, slot_end, TokenAt, Kept}
use Rattle.nodes.specs.Slots.{is_token_at}
use Rattle.nodes.specs.Children.{AttachedTwo}
use Rattle.nodes.specs.declared.frames.List.{List as Items}
use Rattle.levels.specs.Passes.{moved_to}
use Rattle.levels.specs.Items.{BackArray, Ahead}
use Rattle.passes.specs.Unary.{RightList}

-- A list with the unread items up to `left` and the done ones from `right` on.
abbrev pub scan_at : ℕ → ℕ → ℕ → ℕ → Items
scan_at base len left right = record { owner = 0; base = base; len = len; read = left; write = right }

-- The slot q takes b and c as its children and stands in the word `at`.
pub record Grouped (W : List ℕ) (q b c at : ℕ) (W' : List ℕ) : Type 0 where
  pub Z : List ℕ
  pub attached : AttachedTwo W q b c Z
  pub stored : W' ≡ set Z at q

-- The last two unread items and the first done one are slots.
pub record CanFoldLast (W : List ℕ) (base left right : ℕ) : Type 0 where
  pub two : 2 ≤ left
  pub behind : left ≤ right
  pub within : base + right < length W
  pub own : slot_end (wd W (base + (left - 1))) ≤ length W
  pub first : slot_end (wd W (base + (left - 2))) ≤ length W
  pub second : slot_end (wd W (base + right)) ≤ length W
  pub apart : wd W (base + (left - 2)) ≢ wd W (base + right)

-- The last unread item takes the one before it and the first done one, and stands in the word of the latter.
abbrev pub FoldedLast : List ℕ → ℕ → ℕ → ℕ → List ℕ → Type 0
FoldedLast W base left right W' = Grouped W (wd W (base + (left - 1))) (wd W (base + (left - 2))) (wd W (base + right)) (base + right) W'

-- ---- `dangling`

-- The done items f, from `from` on.
pub record CanDangle (W : List ℕ) (base from len : ℕ) : Type 0 where
  pub X : List ℕ
  pub lo : ℕ
  pub hi : ℕ
  pub f : Forest
  pub items : Ahead W X base from len lo hi f
  pub below : slot_start hi ≤ base
  pub within : base + len ≤ length W
  pub small : length W < 2 ^ 32

-- The slot of the token, where there is one.
pub data DanglesAt (W : List ℕ) : math.Option Token → Option ℕ → Type 0 where
  nowhere : DanglesAt W math.none None
  here : {k : Token} {s : ℕ} → TokenAt W s k → DanglesAt W (math.some k) (Some s)

-- r is the slot of the token that the definition finds dangling, where there is one.
pub record Dangles (W : List ℕ) (base from len : ℕ) (r : Option ℕ) : Type 0 where
  pub at : (g : CanDangle W base from len) → DanglesAt W (definition.dangling g.f) r

-- ---- `is_else`

-- The unread items are slots within the words.
pub record CanLook (W : List ℕ) (base left : ℕ) : Type 0 where
  pub within : base + left ≤ length W
  pub slot : (i : ℕ) → i < left → slot_end (wd W (base + i)) ≤ length W

-- The last unread item is a `:`, and a `?` stands two before it.
pub data IsElse (W : List ℕ) (base left : ℕ) : Bool → Type 0 where
  few : left < 3 → IsElse W base left false
  other : is_token_at W (wd W (base + (left - 1))) conditional_else ≡ false → IsElse W base left false
  looked : {r : Bool} → 3 ≤ left → is_token_at W (wd W (base + (left - 1))) conditional_else ≡ true
      → r ≡ is_token_at W (wd W (base + (left - 3))) conditional → IsElse W base left r

-- ---- `fold_else`

-- Unread and done items are slots within the words; there is a done one, and the third is not the first.
pub record CanFoldElse (W : List ℕ) (base len left right : ℕ) : Type 0 where
  pub within : base + len ≤ length W
  pub behind : left ≤ right
  pub full : right < len
  pub slot : (i : ℕ) → i < left → slot_end (wd W (base + i)) ≤ length W
  pub done : (i : ℕ) → right ≤ i → i < len → slot_end (wd W (base + i)) ≤ length W
  pub apart : right + 2 < len → wd W (base + right) ≢ wd W (base + (right + 2))

-- The `:` behind a `?` takes the done items beside it; otherwise nothing changes. The number is where the done items start then.
pub data ElseFolded (W : List ℕ) (base len left right : ℕ) : ℕ → List ℕ → Type 0 where
  start : left ≡ 0 → ElseFolded W base len left right right W
  short : len - right < 3 → ElseFolded W base len left right right W
  no_if : 0 < left → is_token_at W (wd W (base + (left - 1))) conditional ≡ false → ElseFolded W base len left right right W
  no_else : right + 2 < len → is_token_at W (wd W (base + (right + 1))) conditional_else ≡ false → ElseFolded W base len left right right W
  pair : {W' : List ℕ} → 0 < left → right + 2 < len → is_token_at W (wd W (base + (left - 1))) conditional ≡ true
      → is_token_at W (wd W (base + (right + 1))) conditional_else ≡ true
      → Grouped W (wd W (base + (right + 1))) (wd W (base + right)) (wd W (base + (right + 2))) (base + (right + 2)) W'
      → ElseFolded W base len left right (right + 2) W'

-- ---- `fold_next`

-- The scan over the unread items L, the last first, with the done ones R behind them.
pub record CanScan (W : List ℕ) (base len left right : ℕ) : Type 0 where
  pub X : List ℕ
  pub lo : ℕ
  pub l : ℕ
  pub m : ℕ
  pub hi : ℕ
  pub L : Forest
  pub R : Forest
  pub list : RightList W X lo l m hi (scan_at base len left right) R L
  pub behind : left ≤ right
  pub full : right < len

-- The scan goes on with the items L' and R', and gives the same as before.
pub record ScanTo (W' X : List ℕ) (lo hi base len : ℕ) (L R : Forest) (left right : ℕ) : Type 0 where
  pub l : ℕ
  pub m : ℕ
  pub L' : Forest
  pub R' : Forest
  pub list : RightList W' X lo l m hi (scan_at base len left right) R' L'
  pub same : definition.scan L R ≡ definition.scan L' R'
  pub behind : left ≤ right
  pub full : right < len

-- Two items at least are unread.
pub record CanFoldNext (W : List ℕ) (base len left right : ℕ) : Type 0 where
  pub scan : CanScan W base len left right
  pub two : 2 ≤ left

-- One step of the scan: fewer items are unread, and the scan gives the same.
pub record FoldedNext (W : List ℕ) (v r : Items) (W' : List ℕ) : Type 0 where
  pub to : (g : CanScan W v.base v.len v.read v.write) → ScanTo W' g.X g.lo g.hi v.base v.len g.L g.R r.read r.write
  pub kept : (g : CanScan W v.base v.len v.read v.write) → Kept W W' g.X g.lo g.hi v.base (v.base + v.len)
  pub moved : r ≡ moved_to v r.read r.write
  pub less : r.read < v.read
  pub long : length W' ≡ length W

-- ---- `fold_conditionals`

-- The items d, the last first.
pub record CanFold (W : List ℕ) (base len : ℕ) : Type 0 where
  pub X : List ℕ
  pub lo : ℕ
  pub hi : ℕ
  pub d : Forest
  pub items : BackArray W X base len lo hi d
  pub below : slot_start hi ≤ base
  pub within : base + len ≤ length W
  pub small : length W < 2 ^ 32

-- What the fold makes of them stands from r on.
pub record FoldedAll (W : List ℕ) (base len r : ℕ) (W' : List ℕ) : Type 0 where
  pub to : (g : CanFold W base len) → Ahead W' g.X base r len g.lo g.hi (definition.folded_from g.d)
  pub kept : (g : CanFold W base len) → Kept W W' g.X g.lo g.hi base (base + len)
  pub long : length W' ≡ length W
