-- What the array pass's own functions ask and ensure, word by word; the laws of proofs/ lift it to trees.
use Rattle.std.specs.Prelude.{ℕ, ◌+◌, ◌≤◌, ◌<◌, ◌≡◌, ◌≢◌, ◌⊎◌, true, false, List, [], ◌∷◌, length, set, Option, None, Some, unwrap_or}
use Rattle.std.specs.Prelude.{Result, Ok, Err}
use Rattle.molang.specs.Operator.{left_bracket, array_variable, array}
use Rattle.molang.specs.Calls.{unindexed}
use Rattle.molang.specs.Free.{is_array_name}
use Rattle.molang.specs.Work.{arrays}
use Rattle.ops.specs.Classes.{bit_at}
use Rattle.words.specs.Fields.{with_operator}
use Rattle.nodes.specs.Store.{wd, slot_start, slot_end, first_word, classes_word, operator_word_at, first_at, next_at, classes_at, Chain, Inc, Out}
use Rattle.nodes.specs.Store.{OffNext, onto}
use Rattle.nodes.specs.Slots.{op_at, is_leaf_at, is_token_at}
use Rattle.nodes.specs.Children.{some_notes}
use Rattle.nodes.specs.declared.frames.List.{List as Items}
use Rattle.levels.specs.Passes.{walk_of, moved_to}
use Rattle.levels.specs.declared.failure.Failure.{Failure}
use Rattle.levels.specs.declared.failure.Failure.TheVariants.{EmptyArrayIndex}
use Rattle.levels.specs.declared.turns.Pass.TheVariants.{Arrays}
use Rattle.levels.specs.declared.turns.Turn.{Turn}
use Rattle.levels.specs.declared.turns.Turn.TheVariants.{Enter}
use Rattle.passes.specs.TokenTurns.{TokenTurned, unasked}

-- No slot of the first list is one of the second.
abbrev pub Apart : List ℕ → List ℕ → Type 0
Apart [] back = Unit {0}
Apart (c ∷ left) back = Out c back × Apart left back

-- ---- `gather`

-- The slots cs of the index's children rise, and none of them is one of ds, the slots of the array's children so far.
pub record CanGather (W : List ℕ) (array index : ℕ) : Type 0 where
  pub hi : ℕ
  pub cs : List ℕ
  pub ds : List ℕ
  pub chain : Chain W (first_at W index) cs
  pub gathered : Chain W (first_at W array) ds
  pub inc : Inc 1 hi cs
  pub apart : Apart cs ds
  pub own : array < hi
  pub from : index < hi
  pub within : slot_start hi ≤ length W

-- The index's children stand on the array's chain, the last first.
pub record Gathered (W : List ℕ) (array index : ℕ) (W' : List ℕ) : Type 0 where
  pub linked : (g : CanGather W array index) → Chain W' (first_at W' array) (onto g.cs g.ds)
  pub same : (g : CanGather W array index) (j : ℕ) → j ≢ first_word array → OffNext g.cs j → wd W' j ≡ wd W j
  pub long : length W' ≡ length W

-- ---- `turn_round`

-- The numbers cs fall, and the first is below `top`.
abbrev pub Dec : ℕ → List ℕ → Type 0
Dec top [] = Unit {0}
Dec top (c ∷ cs) = (c < top) × Dec c cs

-- The array's children cs, the last first.
pub record CanRound (W : List ℕ) (a : ℕ) : Type 0 where
  pub hi : ℕ
  pub cs : List ℕ
  pub chain : Chain W (first_at W a) cs
  pub falls : Dec hi cs
  pub own : a < hi
  pub within : slot_start hi ≤ length W

-- The array's children stand in order, and it notes the classes of all of them.
pub record Rounded (W : List ℕ) (a : ℕ) (W' : List ℕ) : Type 0 where
  pub linked : (g : CanRound W a) → Chain W' (first_at W' a) (onto g.cs [])
  pub classes : (g : CanRound W a) (i : ℕ) → bit_at (classes_at W' a) i ≡ some_notes W (onto g.cs []) i
  pub same : (g : CanRound W a) (j : ℕ) → j ≢ first_word a → j ≢ classes_word a → OffNext (onto g.cs []) j → wd W' j ≡ wd W j
  pub long : length W' ≡ length W

-- ---- `lend_name`

-- The array a, its last child, the index b and its first child are slots of the words.
pub record CanLend (W : List ℕ) (a b : ℕ) : Type 0 where
  pub own : slot_end a ≤ length W
  pub from : slot_end b ≤ length W
  pub last : slot_end (first_at W a) ≤ length W
  pub contents : slot_end (first_at W b) ≤ length W

-- Nothing is lent; or the array's last child, a bare name, is taken away from it and is an array itself.
pub data Lent (W : List ℕ) (a b : ℕ) (r : Option ℕ) (W' : List ℕ) : Type 0 where
  nothing : r ≡ None → W' ≡ W
      → (first_at W a ≡ 0) ⊎ ((is_token_at W (first_at W a) array_variable ≡ false) ⊎ (op_at W (first_at W b) ≢ left_bracket))
      → Lent W a b r W'
  name : {n : ℕ} {W1 : List ℕ} → r ≡ Some n → n ≢ 0 → n ≡ first_at W a → is_token_at W n array_variable ≡ true
      → op_at W (first_at W b) ≡ left_bracket
      → W1 ≡ set W (first_word a) (next_at W n) → W' ≡ set W1 (slot_start n) (with_operator (operator_word_at W1 n) array) → Lent W a b r W'

-- ---- `array_index`

-- The next item, b, is an index of the array a.
pub record CanIndex (W : List ℕ) (v : Items) (b a : ℕ) : Type 0 where
  pub left : v.read < v.len
  pub lends : CanLend W a b

-- The index is empty, or it is entered, with the array that `lend_name` lends to its contents, if any.
pub data Indexed (W : List ℕ) (v : Items) (b a : ℕ) (r : Result Turn Failure) (W' : List ℕ) : Type 0 where
  empty : is_leaf_at W b ≡ true → W' ≡ W → r ≡ Err (EmptyArrayIndex a b) → Indexed W v b a r W'
  opens : {lent : Option ℕ} → is_leaf_at W b ≡ false → Lent W a b lent W'
      → r ≡ Ok (Enter (walk_of (moved_to v (v.read + 1) v.write) (Arrays a (unwrap_or lent 0))) b)
      → Indexed W v b a r W'

-- ---- `array_name`

-- The array pass asks nothing of the trees before a name.
abbrev pub NameTurned : List ℕ → Items → ℕ → Result Turn Failure → List ℕ → Type 0
NameTurned W v b r W' = TokenTurned arrays unindexed is_array_name unasked W (walk_of v (Arrays 0 0)) b r W'
