-- What the functions on one slot answer, by its words, and what those that write a whole slot ensure.
use Rattle.std.specs.Prelude.{ℕ, ◌+◌, ◌≤◌, ◌<◌, ◌≡◌, ◌⊎◌, Bool, ◌&&◌, List, eqb, length, get_or}
use Rattle.molang.specs.Words.{low_of}
use Rattle.words.specs.Fields.{operator_of}
use Rattle.nodes.specs.Store.{wd, slot_start, slot_end, operator_word_at, start_word_at, end_word_at, first_at, next_at, classes_at}
use Rattle.nodes.specs.Stored.{stored_at, bare_stored, stored_list}
use Rattle.nodes.specs.declared.stored.StoredWords.{StoredWords}

-- The operator of slot s.
abbrev pub op_at : List ℕ → ℕ → ℕ
op_at W s = operator_of (operator_word_at W s)

-- Its span's start.
abbrev pub start_at : List ℕ → ℕ → ℕ
start_at W s = low_of (start_word_at W s)

-- Its span's end.
abbrev pub end_at : List ℕ → ℕ → ℕ
end_at W s = low_of (end_word_at W s)

-- It has no children.
abbrev pub is_leaf_at : List ℕ → ℕ → Bool
is_leaf_at W s = eqb (first_at W s) 0

-- It is a leaf of this operator.
abbrev pub is_token_at : List ℕ → ℕ → ℕ → Bool
is_token_at W s op = is_leaf_at W s && eqb (op_at W s) op

-- Slot s is a leaf of the five words k that notes the classes n; all other words are as they were.
pub record Laid (W : List ℕ) (s : ℕ) (k : StoredWords) (n : ℕ) (W' : List ℕ) : Type 0 where
  pub words : (i : ℕ) → i < 5 → wd W' (slot_start s + i) ≡ get_or (stored_list k) i 0
  pub first : first_at W' s ≡ 0
  pub next : next_at W' s ≡ 0
  pub classes : classes_at W' s ≡ n
  pub same : (j : ℕ) → (j < slot_start s) ⊎ (slot_end s ≤ j) → wd W' j ≡ wd W j
  pub long : length W' ≡ length W

-- Slot s is a new node of op, with the span words of slot `like`, payload 0 and no class, which closes at its end.
abbrev pub Made : List ℕ → ℕ → ℕ → ℕ → List ℕ → Type 0
Made W s op like W' = Laid W s (bare_stored op (stored_at W (slot_start like))) 0 W'
