-- What the pass of the prefix operators asks of a text, said of the text itself: where minuses are prefixes, and where they stand between
-- operands. p is the label of the item before the text in its list.
use mathlib.Core.{Path.{◌≡◌}, Bool.{true, false}, Option.{Option, none, some}, Logic.{◌⊎◌}}
use lib.Dec.{eqb}
use Rattle.molang.specs.{Operator.{negate, logical_not, operand, before_minus}, Forest.{Token}, Grammar.{Text}}
use Rattle.molang.proofs.{Grammar.Prefixed.{last_of, is_operand, Unary}, Grammar.Views.{prefixed}}
use Rattle.molang.specs.Grammar as Texts

-- No prefix operator.
abbrev pub Unsigned : Token → Type 0
Unsigned k = (eqb k.op negate ≡ false) × (eqb k.op logical_not ≡ false)

abbrev pub Signed : Option Token → Text → Type 0
Signed p (Texts.operand k) = Unsigned k
Signed p (Texts.member b a ms) = Unsigned b
Signed p (Texts.section o c x) = Unsigned o × Signed none x
Signed p (Texts.query k o c x) = Unsigned k × Unsigned o × Signed none x
Signed p (Texts.math_call k o c x) = Unsigned k × Unsigned o × Signed none x
Signed p (Texts.math_empty k o c) = Unsigned k × Unsigned o
Signed p (Texts.index k o c x) = Signed none x
Signed p (Texts.arrow k x y) = Unsigned k × Signed none x × Signed (some (last_of (prefixed x))) y
Signed p (Texts.prefix k x) =
    ((eqb k.op logical_not ≡ true) ⊎ ((eqb k.op negate ≡ true) × Unary p)) × (is_operand (prefixed x) ≡ true) × Signed (some k) x
Signed p (Texts.returned k x) = Unsigned k × Signed (some k) x
Signed p (Texts.between k x y) = Unsigned k × Signed p x × Signed (some k) y
Signed p (Texts.minus k x y) = (eqb k.op negate ≡ true) × (before_minus (last_of (prefixed x)).op ≡ operand) × Signed p x
    × Signed (some k) y
Signed p (Texts.minuses k l x y) =
    (eqb k.op negate ≡ true) × (eqb l.op negate ≡ true) × (before_minus (last_of (prefixed x)).op ≡ operand) × Signed p x
    × Signed (some l) y
Signed p (Texts.choice q c t) = Unsigned q × Signed p c × Signed (some q) t
Signed p (Texts.chosen q k c t e) = Unsigned q × Unsigned k × Signed p c × Signed (some q) t × Signed (some k) e
Signed p (Texts.script x) = Signed none x
Signed p (Texts.line e es x) = Signed none x
Signed p (Texts.lines x y) = Signed p x × Signed (some (last_of (prefixed x))) y
Signed p (Texts.final x) = Signed none x
