-- What the functions on child lists ask and ensure, word by word. They ask that a chain or a run rises, as the roots of a forest do, and
-- stands below the stack. The laws of proofs/ lift what they ensure to trees.
use Rattle.std.specs.Prelude.{ℕ, ◌+◌, ◌≤◌, ◌<◌, ◌≡◌, ◌≢◌, ◌⊎◌, Bool, false, ◌||◌, List, [], ◌∷◌, length}
use Rattle.ops.specs.Classes.{bit_at}
use Rattle.nodes.specs.Store.{wd, slot_start, first_word, next_word, classes_word, first_at, next_at, classes_at, Chain, Seg, Inc, OffNext}

-- ---- `attach`, `attach_two`

-- c is the only child of p, which notes c's classes.
pub record Attached (W : List ℕ) (p c : ℕ) (W' : List ℕ) : Type 0 where
  pub first : first_at W' p ≡ c
  pub last : next_at W' c ≡ 0
  pub classes : classes_at W' p ≡ classes_at W c
  pub same : (j : ℕ) → j ≢ first_word p → j ≢ next_word c → j ≢ classes_word p → wd W' j ≡ wd W j
  pub long : length W' ≡ length W

-- l and r are the children of p, which notes the classes of both.
pub record AttachedTwo (W : List ℕ) (p l r : ℕ) (W' : List ℕ) : Type 0 where
  pub first : first_at W' p ≡ l
  pub next : next_at W' l ≡ r
  pub last : next_at W' r ≡ 0
  pub classes : (i : ℕ) → bit_at (classes_at W' p) i ≡ (bit_at (classes_at W l) i || bit_at (classes_at W r) i)
  pub same : (j : ℕ) → j ≢ first_word p → j ≢ next_word l → j ≢ next_word r → j ≢ classes_word p → wd W' j ≡ wd W j
  pub long : length W' ≡ length W

-- ---- `take_chain`

-- The chain from `first` on lies below the stack, and the words from `to` on have room for it.
pub record CanTake (W : List ℕ) (first to : ℕ) : Type 0 where
  pub hi : ℕ
  pub cs : List ℕ
  pub chain : Chain W first cs
  pub inc : Inc 1 hi cs
  pub below : slot_start hi ≤ to
  pub room : to + length cs ≤ length W

-- The chain's r slots stand in the words from `to` on.
pub record Taken (W : List ℕ) (first to r : ℕ) (W' : List ℕ) : Type 0 where
  pub count : (cs : List ℕ) → Chain W first cs → r ≡ length cs
  pub seg : (cs : List ℕ) → Chain W first cs → Seg W' to cs
  pub same : (j : ℕ) → (j < to) ⊎ (to + r ≤ j) → wd W' j ≡ wd W j
  pub long : length W' ≡ length W

-- ---- `give_children`

-- Class i is noted at some slot of cs.
unfoldable pub some_notes : List ℕ → List ℕ → ℕ → Bool
some_notes W [] i = false
some_notes W (c ∷ cs) i = bit_at (classes_at W c) i || some_notes W cs i

-- The n words from `from` on are slots that rise, below the stack, as the parent p is.
pub record CanGive (W : List ℕ) (p from n : ℕ) : Type 0 where
  pub hi : ℕ
  pub cs : List ℕ
  pub seg : Seg W from cs
  pub count : length cs ≡ n
  pub inc : Inc 1 hi cs
  pub own : p < hi
  pub below : slot_start hi ≤ from
  pub room : from + n ≤ length W

-- Those slots are the children of p, which notes the classes of all of them.
pub record Given (W : List ℕ) (p from n : ℕ) (W' : List ℕ) : Type 0 where
  pub linked : (cs : List ℕ) → Seg W from cs → length cs ≡ n → Chain W' (first_at W' p) cs
  pub classes : (cs : List ℕ) → Seg W from cs → length cs ≡ n → (i : ℕ) → bit_at (classes_at W' p) i ≡ some_notes W cs i
  pub same : (cs : List ℕ) → Seg W from cs → length cs ≡ n → (j : ℕ) → j ≢ first_word p → j ≢ classes_word p → OffNext cs j → wd W' j ≡ wd W j
  pub long : length W' ≡ length W

-- ---- `count_chain`, `last_of_chain`

-- The chain from `first` on lies within the words.
pub record CanFollow (W : List ℕ) (first : ℕ) : Type 0 where
  pub hi : ℕ
  pub cs : List ℕ
  pub chain : Chain W first cs
  pub inc : Inc 1 hi cs
  pub within : slot_start hi ≤ length W

-- n is the number of the chain's slots.
pub record Counted (W : List ℕ) (first n : ℕ) : Type 0 where
  pub count : (cs : List ℕ) → Chain W first cs → n ≡ length cs

-- The last of the slots c and those after it.
unfoldable pub last_from : ℕ → List ℕ → ℕ
last_from c [] = c
last_from c (d ∷ ds) = last_from d ds

-- r is the last of the chain's slots.
pub record IsLast (W : List ℕ) (first r : ℕ) : Type 0 where
  pub last : (c : ℕ) (cs : List ℕ) → Chain W first (c ∷ cs) → r ≡ last_from c cs
