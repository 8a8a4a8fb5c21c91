-- CANONICAL TEXTS: the side conditions under which a text reads to its tree, and the tree.
use Prim.Native.Nat.{ℕ}
use mathlib.Core.{Path.{◌≡◌}, Bool.{true, false}, Option.{none}}
use lib.Dec.{eqb, leb}
use Rattle.molang.specs.Operator
use Rattle.molang.specs.{Forest.{Forest}, Order.{Rules}, Grammar.{Text}}
use Rattle.molang.proofs.{Grammar.Shape.{Shaped, Stated, is_list}, Grammar.Ranked.{Ranked}, Grammar.Prefixed.{Fits}}
use Rattle.molang.proofs.{Grammar.Returned.{returned, Returning}, Grammar.Ranks.{rank, pairing}}
use Rattle.molang.proofs.Grammar.Views.{shape, points, prefixed, ranked}
use Rattle.molang.specs.Grammar as Texts

-- The pointer's level has one operator.
unfoldable pub arrow_rank : ℕ → ℕ
arrow_rank n = elim (eqb n Operator.pointer) [ true ↦ 1 | false ↦ 0 ]

-- Every `->` and every binary minus stands as one.
abbrev pub Arrows : Text → Type 0
Arrows (Texts.operand k) = Unit {0}
Arrows (Texts.member b a ms) = Unit {0}
Arrows (Texts.section o c x) = Arrows x
Arrows (Texts.query k o c x) = Arrows x
Arrows (Texts.math_call k o c x) = Arrows x
Arrows (Texts.math_empty k o c) = Unit {0}
Arrows (Texts.index k o c x) = Arrows x
Arrows (Texts.arrow k x y) = (k.op ≡ Operator.pointer) × Arrows x × Arrows y
Arrows (Texts.prefix k x) = Arrows x
Arrows (Texts.returned k x) = Arrows x
Arrows (Texts.between k x y) = Arrows x × Arrows y
Arrows (Texts.minus k x y) = (k.op ≡ Operator.negate) × Arrows x × Arrows y
Arrows (Texts.minuses k l x y) = (k.op ≡ Operator.negate) × Arrows x × Arrows y
Arrows (Texts.choice q c t) = Arrows c × Arrows t
Arrows (Texts.chosen q k c t e) = Arrows c × Arrows t × Arrows e
Arrows (Texts.script x) = Arrows x
Arrows (Texts.line e es x) = Arrows x
Arrows (Texts.lines x y) = Arrows x × Arrows y
Arrows (Texts.final x) = Arrows x

-- What each view asks.
pub record Canonical (r : Rules) (t : Text) : Type 0 where
  pub shaped : Shaped (shape t)
  pub stated : Stated (shape t)
  pub list : is_list (shape t) ≡ true
  pub arrows : Arrows t
  pub tight : Ranked arrow_rank 0 (points t)
  pub signed : Fits none (prefixed t)
  pub ordered : Ranked (rank r) (pairing r) (ranked t)
  pub returning : Returning (rank r) (ranked t)

-- The trees of a text, before r: one, where it is canonical and not a part of a list of statements.
unfoldable pub trees : Rules → Text → Forest → Forest
trees r t = returned (λ n. leb 1 (rank r n)) (ranked t)
