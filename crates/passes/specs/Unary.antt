-- What the functions of the unary pass ask and ensure. The unread items stand at the front of the list's words, and the last of them is
-- read first. The done ones stand in order at the end of the words.
use Rattle.words.specs.Fields.{with_operator}
use Rattle.std.specs.Prelude.{ℕ, ◌+◌, ◌-◌, ◌^◌, ◌≤◌, ◌<◌, ◌≡◌, ◌≢◌, ◌⊎◌, true, false, List, length, set, Result}
use Rattle.molang.specs.Operator.{negate, add}
use Rattle.molang.specs.Forest.{Token, Forest, nil, node, count, size}
use Rattle.molang.specs.Free.{is_nil, is_prefix}
use Rattle.molang.specs.Work.{unary_minus_and_not, right, from_right}
use Rattle.nodes.specs.Store.{wd, slot_start, slot_end, classes_word, operator_word_at, classes_at, RepT}
use Rattle.nodes.specs.Slots.{op_at, is_leaf_at, Made}
use Rattle.nodes.specs.Children.{Attached}
use Rattle.nodes.specs.declared.frames.List.{List as Items}
use Rattle.levels.specs.Passes.{walk_of, moved_to}
use Rattle.levels.specs.Items.{BackArray, Ahead}
use Rattle.levels.specs.Turns.{Within, TurnTo}
use Rattle.levels.specs.declared.failure.Failure.{Failure}
use Rattle.levels.specs.declared.items.Found.{Found}
use Rattle.levels.specs.declared.items.Found.TheVariants.{Nothing, Children, Token as Leaf}
use Rattle.levels.specs.declared.turns.Pass.TheVariants.{Unary}
use Rattle.levels.specs.declared.turns.Turn.{Turn}

-- The unread items `rest`, the last first, in the slots from lo to l, the done ones in those from m to hi.
pub record RightList (W X : List ℕ) (lo l m hi : ℕ) (v : Items) (d rest : Forest) : Type 0 where
  pub unread : BackArray W X v.base v.read lo l rest
  pub done : Ahead W X v.base v.write v.len m hi d
  pub mid : l ≤ m
  pub below : slot_start hi ≤ v.base
  pub within : v.base + v.len ≤ length W
  pub small : length W < 2 ^ 32

-- ---- `previous_token`

-- A list of the unary pass, whose unread items lie before the done ones.
pub record CanSeekBack (W : List ℕ) (v : Items) : Type 0 where
  pub X : List ℕ
  pub lo : ℕ
  pub l : ℕ
  pub m : ℕ
  pub hi : ℕ
  pub d : Forest
  pub rest : Forest
  pub list : RightList W X lo l m hi v d rest
  pub behind : v.read ≤ v.write

-- Items went from what is unread to what is done, and what is left of the pass gives the same.
pub record Moved (d rest d' rest' : Forest) : Type 0 where
  pub same : from_right (right false d) rest ≡ from_right (right false d') rest'
  pub fewer : count rest' ≤ count rest
  pub smaller : size rest' + count rest ≤ size rest + count rest'

-- It stops at the end, or before a tree at the slot b that is a minus or a not, or has one below it.
pub data SoughtBackTo (W' X : List ℕ) (lo hi : ℕ) (v : Items) (d rest : Forest) : Found → Type 0 where
  none : {d' : Forest} {v' : Items} {l m : ℕ} → v' ≡ moved_to v v'.read v'.write → v'.read ≤ v'.write
      → RightList W' X lo l m hi v' d' nil → Moved d rest d' nil
      → SoughtBackTo W' X lo hi v d rest (Nothing v')
  leaf : {d' rest' : Forest} {v' : Items} {b l m : ℕ} {k : Token} → v' ≡ moved_to v v'.read v'.write → v'.read < v'.write
      → RightList W' X lo l m hi v' d' rest'
      → is_prefix k.op ≡ true → RepT W' X b l m k nil → Moved d rest d' (node k nil rest')
      → SoughtBackTo W' X lo hi v d rest (Leaf v' b)
  tree : {d' rest' cs : Forest} {v' : Items} {b l m : ℕ} {k : Token} → v' ≡ moved_to v v'.read v'.write → v'.read < v'.write
      → RightList W' X lo l m hi v' d' rest'
      → is_nil cs ≡ false → RepT W' X b l m k cs → Moved d rest d' (node k cs rest')
      → SoughtBackTo W' X lo hi v d rest (Children v' b)

-- What `previous_token` found, going to the left; all words outside the list are as they were.
pub record SoughtBack (W : List ℕ) (v : Items) (r : Found) (W' : List ℕ) : Type 0 where
  pub to : (g : CanSeekBack W v) → SoughtBackTo W' g.X g.lo g.hi v g.d g.rest r
  pub same : (j : ℕ) → (j < v.base) ⊎ (v.base + v.len ≤ j) → wd W' j ≡ wd W j
  pub long : length W' ≡ length W

-- ---- `token`, `minus`

-- The token k, a minus or a not, stands at the slot b, between the unread items and the done ones.
pub record CanTakeToken (W : List ℕ) (v : Items) (b : ℕ) : Type 0 where
  pub X : List ℕ
  pub lo : ℕ
  pub l : ℕ
  pub m : ℕ
  pub hi : ℕ
  pub d : Forest
  pub rest : Forest
  pub k : Token
  pub list : RightList W X lo l m hi v d rest
  pub tree : RepT W X b l m k nil
  pub prefix : is_prefix k.op ≡ true
  pub gap : v.read < v.write

-- There is a done item after it.
pub record CanTakeMinus (W : List ℕ) (v : Items) (b : ℕ) : Type 0 where
  pub token : CanTakeToken W v b
  pub is_minus : op_at W b ≡ negate
  pub full : v.write < v.len

-- The turn goes on from the token as the definition's does.
pub record TokenTaken (W : List ℕ) (v : Items) (b : ℕ) (r : Result Turn Failure) (W' : List ℕ) : Type 0 where
  pub to : (g : CanTakeToken W v b)
      → TurnTo unary_minus_and_not W' g.X g.lo g.hi (walk_of v Unary) (right false g.d) (node g.k nil g.rest) r
  pub within : (g : CanTakeToken W v b) → Within W W' g.X g.lo g.hi v

-- ---- `prefix`, `to_add`, `subtract`: the words

-- The slot q and the first done item are slots within the words.
pub record CanPrefix (W : List ℕ) (v : Items) (q : ℕ) : Type 0 where
  pub within : v.base + v.write < length W
  pub own : slot_end q ≤ length W
  pub operand : slot_end (wd W (v.base + v.write)) ≤ length W

-- The slot that stood in the word `at` is the only child of q, which stands in that word.
pub record Prefixed (W : List ℕ) (at q : ℕ) (W' : List ℕ) : Type 0 where
  pub Z : List ℕ
  pub attached : Attached W q (wd W at) Z
  pub stored : W' ≡ set Z at q

-- The slot s has the operator `+`. Where it is a leaf, it notes the classes of `+`.
pub record Added (W : List ℕ) (s : ℕ) (W' : List ℕ) : Type 0 where
  pub Z : List ℕ
  pub renamed : Z ≡ set W (slot_start s) (with_operator (operator_word_at W s) add)
  pub leaf : is_leaf_at W s ≡ true → classes_at W' s ≡ 0x40_0080
  pub inner : is_leaf_at W s ≡ false → classes_at W' s ≡ classes_at W s
  pub same : (j : ℕ) → j ≢ classes_word s → wd W' j ≡ wd Z j
  pub long : length W' ≡ length W

-- The word before the done items is free; the slots b, b + 1 and that of the first done item lie within the words.
pub record CanSubtract (W : List ℕ) (v : Items) (b : ℕ) : Type 0 where
  pub room : 0 < v.write
  pub within : v.base + v.write < length W
  pub own : slot_end (b + 1) ≤ v.base
  pub operand : slot_end (wd W (v.base + v.write)) ≤ length W
  pub small : length W < 2 ^ 32

-- A new minus in the slot after b takes the first done item, and b, which is `+` now, stands before it.
pub record Subtracted (W : List ℕ) (v : Items) (b : ℕ) (r : Items) (W' : List ℕ) : Type 0 where
  pub W1 : List ℕ
  pub W2 : List ℕ
  pub W3 : List ℕ
  pub made : Made W (b + 1) negate b W1
  pub prefixed : Prefixed W1 (v.base + v.write) (b + 1) W2
  pub added : Added W2 b W3
  pub stored : W' ≡ set W3 (v.base + (v.write - 1)) b
  pub list : r ≡ moved_to v v.read (v.write - 1)
