-- How forests stand in the work buffer: slots of eight words, child lists as chains of slots, lists under work as runs of words.
-- Intervals of slots keep siblings apart. They cannot keep a node apart from what is below it: an operator stands between its operands, and
-- in the tree of `return + a`, `+` over `return` over `a`, the root's slot even lies between those of its child and grandchild. So the
-- slots of the ancestors are carried along as a list, and the slots below avoid it.
use Rattle.std.specs.Prelude.{ℕ, ◌+◌, ◌*◌, ◌≤◌, ◌<◌, ◌≡◌, ◌≢◌, ◌⊎◌, true, false, not, List, [], ◌∷◌, eqb, length, get_or}
use Rattle.molang.specs.Operator.{negate, semicolon}
use Rattle.molang.specs.Forest.{Token, Forest, nil, node}
use Rattle.molang.specs.Words.{word, operator_bits}
use Rattle.molang.specs.Legal.{Legal}
use Rattle.molang.specs.Free.{free}
use Rattle.ops.specs.Classes.{bit_at, in_class}

-- The word at an index.
abbrev pub wd : List ℕ → ℕ → ℕ
wd W j = get_or W j 0

-- ---- one slot: a token in five words, then the first child's slot, the next sibling's slot, and the classes that it notes

-- How many words a slot is.
abbrev pub slot_words : ℕ
slot_words = 8

-- Which of its words names the first child, which the next sibling, and which holds the classes.
abbrev pub first_field : ℕ
first_field = 5

abbrev pub next_field : ℕ
next_field = 6

abbrev pub classes_field : ℕ
classes_field = 7

-- The first word of slot s.
abbrev pub slot_start : ℕ → ℕ
slot_start s = slot_words * s

-- The first word past it.
abbrev pub slot_end : ℕ → ℕ
slot_end s = slot_start s + slot_words

-- Where it says where it closes, and where its first child, its next sibling and its classes stand.
abbrev pub close_word : ℕ → ℕ
close_word s = slot_start s + 4

abbrev pub first_word : ℕ → ℕ
first_word s = slot_start s + first_field

abbrev pub next_word : ℕ → ℕ
next_word s = slot_start s + next_field

abbrev pub classes_word : ℕ → ℕ
classes_word s = slot_start s + classes_field

-- Its five token words.
abbrev pub operator_word_at : List ℕ → ℕ → ℕ
operator_word_at W s = wd W (slot_start s)

abbrev pub start_word_at : List ℕ → ℕ → ℕ
start_word_at W s = wd W (slot_start s + 1)

abbrev pub end_word_at : List ℕ → ℕ → ℕ
end_word_at W s = wd W (slot_start s + 2)

abbrev pub value_word_at : List ℕ → ℕ → ℕ
value_word_at W s = wd W (slot_start s + 3)

abbrev pub close_word_at : List ℕ → ℕ → ℕ
close_word_at W s = wd W (close_word s)

-- Its first child, 0 if it has none.
abbrev pub first_at : List ℕ → ℕ → ℕ
first_at W s = wd W (first_word s)

-- Its next sibling, 0 if it has none.
abbrev pub next_at : List ℕ → ℕ → ℕ
next_at W s = wd W (next_word s)

-- The classes that it notes.
abbrev pub classes_at : List ℕ → ℕ → ℕ
classes_at W s = wd W (classes_word s)

-- The words of a token in the store: the payload value is one word, and the word of kind 7 says where it closes.
unfoldable pub stored_words : Token → List ℕ
stored_words k =
    word 1 (operator_bits k.op k.variant) ∷ word 2 k.start ∷ word 3 k.end ∷ k.value ∷ word 7 k.close ∷ []

-- Slot s holds the words of the token k.
pub record TokenAt (W : List ℕ) (s : ℕ) (k : Token) : Type 0 where
  pub words : (i : ℕ) → i < 5 → wd W (slot_start s + i) ≡ get_or (stored_words k) i 0
  pub legal : Legal k

-- The classes in w are exactly those of the leaves of the forest, at any depth.
pub record Notes (w : ℕ) (f : Forest) : Type 0 where
  pub bits : (i : ℕ) → i < 32 → bit_at w i ≡ not (free (in_class i) f)

-- The same of one tree, the node k over cs: its own class if it is a leaf, else those of the leaves below it.
abbrev pub Noted : ℕ → Token → Forest → Type 0
Noted w k cs = Notes w (node k cs nil)

-- How many slots are kept free from a node's own slot on, that slot among them: a binary minus makes its new node in the next slot, and the
-- statement pass makes its nodes in the slots of the semicolons, which vanish.
unfoldable pub reserve : Token → Forest → ℕ
reserve k nil = elim (eqb k.op semicolon) [ true ↦ 3 | false ↦ elim (eqb k.op negate) [ true ↦ 2 | false ↦ 1 ] ]
reserve k (node c cs r) = 1

-- ---- lists of slots

-- The slots cs are linked, each to the next, from f on.
abbrev pub Chain : List ℕ → ℕ → List ℕ → Type 0
Chain W f [] = f ≡ 0
Chain W f (c ∷ cs) = (f ≡ c) × (0 < c) × Chain W (next_at W c) cs

-- The words from `at` on are cs.
abbrev pub Seg : List ℕ → ℕ → List ℕ → Type 0
Seg W at [] = Unit {0}
Seg W at (c ∷ cs) = (wd W at ≡ c) × Seg W (at + 1) cs

-- The words from `base` on are cs, the last first.
abbrev pub SegB : List ℕ → ℕ → List ℕ → Type 0
SegB W base [] = Unit {0}
SegB W base (c ∷ cs) = (wd W (base + length cs) ≡ c) × SegB W base cs

-- cs goes up, from lo to below hi.
abbrev pub Inc : ℕ → ℕ → List ℕ → Type 0
Inc lo hi [] = lo ≤ hi
Inc lo hi (c ∷ cs) = (lo ≤ c) × Inc (c + 1) hi cs

-- The slot s is none of X.
abbrev pub Out : ℕ → List ℕ → Type 0
Out s [] = Unit {0}
Out s (x ∷ X) = (s ≢ x) × Out s X

-- None of the n slots from b on is one of X.
abbrev pub OutFrom : ℕ → ℕ → List ℕ → Type 0
OutFrom b n X = (s : ℕ) → b ≤ s → s < b + n → Out s X

-- j is no `next` word of a slot of cs.
abbrev pub OffNext : List ℕ → ℕ → Type 0
OffNext [] j = Unit {0}
OffNext (c ∷ cs) j = (j ≢ next_word c) × OffNext cs j

-- A list that was read backwards, put back onto what comes after it.
abbrev pub onto : List ℕ → List ℕ → List ℕ
onto [] l = l
onto (r ∷ rs) l = onto rs (r ∷ l)

-- ---- forests

-- The trees of F stand at the slots bs, each in an interval of its own, the intervals going up from lo to hi. None of their slots, nor of
-- those that they keep free, is in X: the ancestors' slots. The roots' `next` words are no part of it.
pub data RepF (W : List ℕ) : List ℕ → List ℕ → ℕ → ℕ → Forest → Type 0 where
  ends : {X : List ℕ} {lo hi : ℕ} → lo ≤ hi → RepF W X [] lo hi nil
  more : {X : List ℕ} {b : ℕ} {bs : List ℕ} {lo l m hi : ℕ} {t : Token} {k f : Forest} {cs : List ℕ}
      → lo ≤ l → l ≤ b → b + reserve t k ≤ m → 0 < b → OutFrom b (reserve t k) X
      → TokenAt W b t → Noted (classes_at W b) t k → Chain W (first_at W b) cs → RepF W (b ∷ X) cs l m k
      → RepF W X bs m hi f
      → RepF W X (b ∷ bs) lo hi (node t k f)

-- One tree: t over k at the slot b, in the interval from l to m.
pub record RepT (W X : List ℕ) (b l m : ℕ) (t : Token) (k : Forest) : Type 0 where
  pub cs : List ℕ
  pub low : l ≤ b
  pub high : b + reserve t k ≤ m
  pub pos : 0 < b
  pub out : OutFrom b (reserve t k) X
  pub token : TokenAt W b t
  pub noted : Noted (classes_at W b) t k
  pub chain : Chain W (first_at W b) cs
  pub kids : RepF W (b ∷ X) cs l m k

-- The child list of the slot q at rest: linked from its `first` word on, the classes of all of it noted. Slot 0 owns the outermost list.
pub record Owned (W X : List ℕ) (q lo hi : ℕ) (f : Forest) : Type 0 where
  pub cs : List ℕ
  pub chain : Chain W (first_at W q) cs
  pub notes : Notes (classes_at W q) f
  pub kids : RepF W (q ∷ X) cs lo hi f

-- The trees of d, the last first, at the slots ds, the last first: what is done so far, from the left; or what is not read yet, from the
-- right.
pub data RepB (W X : List ℕ) : List ℕ → ℕ → ℕ → Forest → Type 0 where
  begins : {lo hi : ℕ} → lo ≤ hi → RepB W X [] lo hi nil
  put : {b : ℕ} {ds : List ℕ} {lo l m hi : ℕ} {d : Forest} {t : Token} {k : Forest}
      → RepB W X ds lo l d → RepT W X b l m t k → m ≤ hi → RepB W X (b ∷ ds) lo hi (node t k d)

-- A list under work: the n words from `at` on are the roots of the forest.
pub record InArray (W X : List ℕ) (at n lo hi : ℕ) (f : Forest) : Type 0 where
  pub bs : List ℕ
  pub seg : Seg W at bs
  pub count : n ≡ length bs
  pub rep : RepF W X bs lo hi f

-- Every token of the forest is legal.
abbrev pub AllLegal : Forest → Type 0
AllLegal nil = Unit {0}
AllLegal (node k cs rest) = Legal k × AllLegal cs × AllLegal rest

-- ---- what stays as it is

-- W' has W's words in the slots from lo to hi, but perhaps in those of X, and the `next` words of bs.
abbrev pub Agree : List ℕ → List ℕ → List ℕ → List ℕ → ℕ → ℕ → Type 0
Agree W W' X bs lo hi =
    (s o : ℕ) → lo ≤ s → s < hi → o < slot_words → Out s X → (o ≢ next_field) ⊎ Out s bs → wd W' (slot_start s + o) ≡ wd W (slot_start s + o)

-- j is no word of a slot that lies from lo to hi and is not in X.
abbrev pub Free : List ℕ → ℕ → ℕ → ℕ → Type 0
Free X lo hi j = (s o : ℕ) → lo ≤ s → s < hi → o < slot_words → Out s X → j ≢ slot_start s + o

-- W' is W, but for the slots from lo to hi that are not in X, and the stack's words from a to b.
abbrev pub Kept : List ℕ → List ℕ → List ℕ → ℕ → ℕ → ℕ → ℕ → Type 0
Kept W W' X lo hi a b = (j : ℕ) → Free X lo hi j → (j < a) ⊎ (b ≤ j) → wd W' j ≡ wd W j
