-- What the lists of a well-formed text look like before and after the pass of the prefix operators: operands, prefix operators before
-- them, operators between them. A minus after an operand is a plus over the minus of what follows; the second of two after an operand
-- vanishes.
use mathlib.Core.{Path.{◌≡◌}, Bool.{Bool, true, false}, Option.{Option, none, some}, Logic.{◌⊎◌}}
use lib.Dec.{eqb}
use Rattle.molang.specs.Operator.{negate, logical_not, add, operand, operator, before_minus}
use Rattle.molang.specs.{Forest.{Token, Forest, nil, node, renamed, bare}, Unary.{done, unary}}

-- An item with its children before and after the pass; a prefix; an operator between two lists; a minus between them; two of them; two
-- lists side by side (statements, a `return` before its operand).
pub data Text : Type 0 where
  item : Token → Forest → Forest → Text
  prefix : Token → Text → Text
  between : Token → Text → Text → Text
  minus : Token → Text → Text → Text
  minuses : Token → Token → Text → Text → Text
  beside : Text → Text → Text

-- Before the pass, in front of r.
unfoldable pub raw : Text → Forest → Forest
raw (item k cs kids) r = node k cs r
raw (prefix k x) r = node k nil (raw x r)
raw (between k x y) r = raw x (node k nil (raw y r))
raw (minus k x y) r = raw x (node k nil (raw y r))
raw (minuses k l x y) r = raw x (node k nil (node l nil (raw y r)))
raw (beside x y) r = raw x (raw y r)

-- The first tree under a minus with the span of k.
unfoldable pub negated : Token → Forest → Forest
negated k nil = nil
negated k (node n ns r) = node (bare negate k) (node n ns nil) r

-- After the pass.
unfoldable pub read : Text → Forest → Forest
read (item k cs kids) r = node k kids r
read (prefix k x) r = node k (read x nil) r
read (between k x y) r = read x (node k nil (read y r))
read (minus k x y) r = read x (node (renamed add k) nil (negated k (read y r)))
read (minuses k l x y) r = read x (node (renamed add k) nil (read y r))
read (beside x y) r = read x (read y r)

-- The last item's token.
unfoldable pub last_of : Text → Token
last_of (item k cs kids) = k
last_of (prefix k x) = last_of x
last_of (between k x y) = last_of y
last_of (minus k x y) = last_of y
last_of (minuses k l x y) = last_of y
last_of (beside x y) = last_of y

-- One operand, with its prefixes.
unfoldable pub is_operand : Text → Bool
is_operand (item k cs kids) = true
is_operand (prefix k x) = is_operand x
is_operand (between k x y) = false
is_operand (minus k x y) = false
is_operand (minuses k l x y) = false
is_operand (beside x y) = false

-- A minus here is unary.
abbrev pub Unary : Option Token → Type 0
Unary none = Unit {0}
Unary (some p) = before_minus p.op ≡ operator

-- An item's children are done, and a leaf is no prefix operator.
abbrev pub Item : Token → Forest → Forest → Type 0
Item k nil kids = (eqb k.op negate ≡ false) × (eqb k.op logical_not ≡ false) × (kids ≡ nil)
Item k (node c cs r) kids = unary none (node c cs r) ≡ done false kids

abbrev pub Fits : Option Token → Text → Type 0
Fits p (item k cs kids) = Item k cs kids
Fits p (prefix k x) = ((eqb k.op logical_not ≡ true) ⊎ ((eqb k.op negate ≡ true) × Unary p)) × (is_operand x ≡ true) × Fits (some k) x
Fits p (between k x y) = (eqb k.op negate ≡ false) × (eqb k.op logical_not ≡ false) × Fits p x × Fits (some k) y
Fits p (minus k x y) = (eqb k.op negate ≡ true) × (before_minus (last_of x).op ≡ operand) × Fits p x × Fits (some k) y
Fits p (minuses k l x y) = (eqb k.op negate ≡ true) × (eqb l.op negate ≡ true) × (before_minus (last_of x).op ≡ operand) × Fits p x
    × Fits (some l) y
Fits p (beside x y) = Fits p x × Fits (some (last_of x)) y
