-- THE WALK'S STATE, typed: what waits to the right of where the walk stands, as frames of a stack; their tokens, the nodes that they hold,
-- and what holds of them under the rules of a version.
use Prim.Native.Nat.{ℕ, suc, ◌≤◌}
use mathlib.Core.{Path.{◌≡◌}, Bool.{Bool, true, false}, List.{List, [], ◌∷◌}, Option.{Option, none, some}}
use Rattle.molang.specs.Operator
use Rattle.molang.specs.{Forest.{Token, nil, renamed}, Order.{Rules}}
use Rattle.molang.specs.Grammar.{Text, tokens, rank, strength, outline, is_statement, is_text, ends_operand, trees}
use Rattle.molang.specs.Grammar as Texts
use Rattle.scan.specs.Laid.{Entry, laid_onto}

-- A node: its label and its number of children.
abbrev pub placed : Token → ℕ → Entry
placed k n = record { label = k; children = n }

-- What waits for its left operand, but for the right one: an operator, a minus, two of them, a `?`, a `?` with what stands between it and its
-- `:`.
pub data Joint : Type 0 where
  plain less asks : Token → Joint
  lesses : Token → Token → Joint
  chooses : Token → Token → Text → Joint

-- Outside every list; a joint with its right operand; a `:` that waits for its `?`, with what follows it; the closer of an open list. The
-- last one that was met is the first.
pub data Frames : Type 0 where
  outside : Frames
  waits : Joint → Text → Frames → Frames
  colon : Token → Text → Frames → Frames
  closes : Token → Frames → Frames

-- The text of a joint between its operands.
unfoldable pub build : Joint → Text → Text → Text
build (plain k) x y = Texts.between k x y
build (less k) x y = Texts.minus k x y
build (asks q) x y = Texts.choice q x y
build (lesses k l) x y = Texts.minuses k l x y
build (chooses q k t) x y = Texts.chosen q k x t y

-- The tokens of a joint, before those of its right operand.
unfoldable pub front : Joint → List Token → List Token
front (plain k) r = k ∷ r
front (less k) r = k ∷ r
front (asks q) r = q ∷ r
front (lesses k l) r = k ∷ l ∷ r
front (chooses q k t) r = q ∷ tokens t (k ∷ r)

-- The tokens of the frames.
unfoldable pub after : Frames → List Token
after outside = []
after (waits j y W) = front j (tokens y (after W))
after (colon k e W) = k ∷ tokens e (after W)
after (closes c W) = c ∷ after W

-- ---- nodes

-- The label of a joint's node.
unfoldable pub label_of : Joint → Token
label_of (plain k) = k
label_of (less k) = renamed Operator.add k
label_of (asks q) = q
label_of (lesses k l) = renamed Operator.add k
label_of (chooses q k t) = q

-- The minus that stands before its right operand.
unfoldable pub sign_of : Joint → Option Token
sign_of (plain k) = none
sign_of (less k) = some k
sign_of (asks q) = none
sign_of (lesses k l) = none
sign_of (chooses q k t) = none

-- The nodes of a joint that has no left operand yet, before those of its right one.
unfoldable pub held_by : Joint → List Entry → List Entry
held_by (plain k) L = L
held_by (less k) L = L
held_by (asks q) L = L
held_by (lesses k l) L = L
held_by (chooses q k t) L = placed k 2 ∷ laid_onto (trees none t nil) L

-- The nodes of the frames.
unfoldable pub laid_after : Frames → List Entry
laid_after outside = []
laid_after (waits j y W) = held_by j (laid_onto (trees (sign_of j) y nil) (laid_after W))
laid_after (colon k e W) = laid_onto (trees none e nil) (laid_after W)
laid_after (closes c W) = laid_after W

-- ---- what holds

-- The joint is a minus, or two.
unfoldable pub is_minus : Joint → Bool
is_minus (plain k) = false
is_minus (less k) = true
is_minus (asks q) = false
is_minus (lesses k l) = true
is_minus (chooses q k t) = false

-- The joint is a conditional that pairs to the right.
unfoldable pub is_ask : Joint → Bool
is_ask (plain k) = false
is_ask (less k) = false
is_ask (asks q) = true
is_ask (lesses k l) = false
is_ask (chooses q k t) = true

-- A minus waits on top.
unfoldable pub has_minus : Frames → Bool
has_minus outside = false
has_minus (waits j y W) = is_minus j
has_minus (colon k e W) = false
has_minus (closes c W) = false

-- A `:` does.
unfoldable pub has_colon : Frames → Bool
has_colon outside = false
has_colon (waits j y W) = false
has_colon (colon k e W) = true
has_colon (closes c W) = false

abbrev pub Stated : Text → Type 0
Stated x = is_statement (outline x).sort ≡ true

module _ (r : Rules) where
  -- The rank of a joint.
  unfoldable pub rank_of : Joint → ℕ
  rank_of (plain k) = rank r k.op
  rank_of (less k) = rank r Operator.add
  rank_of (asks q) = rank r q.op
  rank_of (lesses k l) = rank r Operator.add
  rank_of (chooses q k t) = rank r q.op

  -- How tightly its left operand must hold.
  unfoldable pub left_rank : Joint → ℕ
  left_rank (plain k) = rank r k.op
  left_rank (less k) = rank r Operator.add
  left_rank (asks q) = suc (rank r q.op)
  left_rank (lesses k l) = rank r Operator.add
  left_rank (chooses q k t) = suc (rank r q.op)

  -- A text may be the left operand of the joint.
  pub record FitsBefore (j : Joint) (x : Text) : Type 0 where
    pub tight : left_rank j ≤ strength r x
    pub ends : is_minus j ≡ true → ends_operand x ≡ true

  -- A text may be what stands between a `?` and a `:`.
  pub record FitsBetween (x : Text) : Type 0 where
    pub tight : rank r Operator.conditional ≤ strength r x
    pub shut : (outline x).is_open ≡ false

  -- A text may stand before what waits on top.
  abbrev pub Fits : Text → Frames → Type 0
  Fits x outside = Unit {0}
  Fits x (waits j y W) = FitsBefore j x
  Fits x (colon k e W) = FitsBetween x
  Fits x (closes c W) = Unit {0}

  -- What holds of a joint that waits with its right operand: with every left operand it is a text that may stand before the frames below.
  pub record Joins (j : Joint) (y : Text) (W : Frames) : Type 0 where
    pub text : (x : Text) → is_text r x ≡ true → FitsBefore j x → is_text r (build j x y) ≡ true
    pub fits : (x : Text) → Fits (build j x y) W
    pub loose : left_rank j ≤ rank r Operator.negate
    pub asking : is_ask j ≡ true → (r.pairs_right ≡ true) × (rank_of j ≡ rank r Operator.conditional)
    pub stated : Stated y
    pub between : (q k : Token) (t : Text) → j ≡ chooses q k t → Stated t

  -- The same of a `:`.
  pub record Colons (k : Token) (e : Text) (W : Frames) : Type 0 where
    pub op : k.op ≡ Operator.conditional_else
    pub pairs : r.pairs_right ≡ true
    pub text : is_text r e ≡ true
    pub tight : rank r Operator.conditional ≤ strength r e
    pub fits : (q : Token) (x t : Text) → q.op ≡ Operator.conditional → Fits (Texts.chosen q k x t e) W
    pub stated : Stated e

  -- What holds of the frames; Expected says of a closer what a minus after it asks.
  abbrev pub Stacked : (ℕ → Type 0) → Frames → Type 0
  Stacked Expected outside = Unit {0}
  Stacked Expected (waits j y W) = Joins j y W × Stacked Expected W
  Stacked Expected (colon k e W) = Colons k e W × Stacked Expected W
  Stacked Expected (closes c W) = (has_minus W ≡ true → Expected c.op) × Stacked Expected W
