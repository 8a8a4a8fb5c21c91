-- What loading asks and ensures: each token of a list without fault stands as a leaf at its slot, and the slots stand on the stack in the
-- list's order.
use Rattle.std.specs.Prelude.{ℕ, zero, suc, ◌+◌, ◌*◌, ◌≤◌, ◌<◌, ◌≡◌, ◌≢◌, ◌⊎◌, List, [], ◌∷◌, length, get_or}
use Rattle.std.proofs.Math.Option.{none}
use Rattle.molang.specs.Forest.{leaves}
use Rattle.molang.specs.Words.{tokens_of, operator_field, words_refusal}
use Rattle.molang.specs.Parse.{most_tokens}
use Rattle.words.specs.Fields.{operator_of}
use Rattle.words.specs.Tokens.{token_words_at}
use Rattle.ops.specs.Classes.{bit_at, in_class, class_table}
use Rattle.nodes.specs.Store.{wd, slot_start, first_at, classes_at, Seg, RepF}
use Rattle.nodes.specs.Stored.{stored_of, stored_list}

-- The slots of n tokens, from token i on.
unfoldable pub token_slots : ℕ → ℕ → List ℕ
token_slots i zero = []
token_slots i (suc n) = (3 * i + 3) ∷ token_slots (suc i) n

-- Token i of the list stands at its slot, in the words of the store, without children, and notes the classes of its operator.
pub record LeafAt (list W : List ℕ) (i : ℕ) : Type 0 where
  pub words : (o : ℕ) → o < 5 → wd W (slot_start (3 * i + 3) + o) ≡ get_or (stored_list (stored_of (token_words_at list (5 * i)))) o 0
  pub first : first_at W (3 * i + 3) ≡ 0
  pub classes : (c : ℕ) → bit_at (classes_at W (3 * i + 3)) c ≡ in_class c (operator_of (wd list (5 * i)))

-- ---- `load_token`

-- The list has token i; its slot lies below the stack, which has a word for it; the table is that of the classes.
pub record CanLoadToken (list W table : List ℕ) (i stack : ℕ) : Type 0 where
  pub classes : table ≡ class_table
  pub few : i < most_tokens
  pub within : 5 * i + 5 ≤ length list
  pub below : 24 * i + 32 ≤ stack
  pub room : stack + i < length W

-- Token i stands as a leaf, its slot on the stack; all other words are as they were.
pub record TokenLoaded (list W : List ℕ) (i stack : ℕ) (W' : List ℕ) : Type 0 where
  pub leaf : LeafAt list W' i
  pub slot : wd W' (stack + i) ≡ 3 * i + 3
  pub same : (j : ℕ) → (j < 24 * i + 24) ⊎ (24 * i + 32 ≤ j) → j ≢ stack + i → wd W' j ≡ wd W j
  pub long : length W' ≡ length W

-- ---- `load`

-- The list is one that the entry does not turn back, of n tokens, and the work buffer is as long as the entry asks.
pub record CanLoad (list W : List ℕ) (n : ℕ) : Type 0 where
  pub faultless : words_refusal 0 operator_field 0 list ≡ none
  pub tokens : length list ≡ 5 * n
  pub few : n ≤ most_tokens
  pub room : 64 * n + 64 ≤ length W

-- The list's tokens stand as leaves, in three slots each from slot 3 on. Slots 0 to 2 are as they were. The next siblings of the tokens'
-- slots, the two slots after each of them, and the words after the n of the stack are left free.
pub record Loaded (list W : List ℕ) (n : ℕ) (W' : List ℕ) : Type 0 where
  pub seg : Seg W' (24 * n + 24) (token_slots 0 n)
  pub rep : RepF W' (0 ∷ []) (token_slots 0 n) 3 (3 * n + 3) (leaves (tokens_of list))
  pub same : (j : ℕ) → j < 24 → wd W' j ≡ wd W j
  pub long : length W' ≡ length W
