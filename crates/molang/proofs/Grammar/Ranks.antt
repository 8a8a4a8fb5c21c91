-- The levels of the versioned order from the first binary one on, and the rank that each operator has by them: what binds tighter has the
-- higher one.
use Prim.Native.Nat.{ℕ, suc}
use mathlib.Core.{Bool.{true, false}, List.{List, [], ◌∷◌}}
use lib.ListN.{length}
use Rattle.molang.specs.Operator
use Rattle.molang.specs.Operator.{is_one_of}
use Rattle.molang.specs.Order.{Rules, Pass, last_token, member_accessors, sectioning, call_pass, statements, arrays, pointer, math_calls}
use Rattle.molang.specs.Order.{unary_minus_and_not, addition, conditional, returns, binary, order}

-- A binary level by its operators, that of plus, and the ternary fold.
pub data Kind : Type 0 where
  plain : List ℕ → Kind
  plus ternary : Kind

unfoldable pub operators_in : Kind → List ℕ
operators_in (plain ops) = ops
operators_in plus = Operator.add ∷ []
operators_in ternary = Operator.conditional ∷ Operator.conditional_else ∷ []

unfoldable pub pass_of : Kind → Pass
pass_of (plain ops) = binary ops
pass_of plus = addition
pass_of ternary = conditional

unfoldable pub passes_of : List Kind → List Pass
passes_of [] = []
passes_of (κ ∷ κs) = pass_of κ ∷ passes_of κs

-- The level of a pass, if it is one, before others.
unfoldable pub kind_of : Pass → List Kind → List Kind
kind_of last_token κs = κs
kind_of member_accessors κs = κs
kind_of sectioning κs = κs
kind_of call_pass κs = κs
kind_of statements κs = κs
kind_of arrays κs = κs
kind_of pointer κs = κs
kind_of math_calls κs = κs
kind_of unary_minus_and_not κs = κs
kind_of addition κs = plus ∷ κs
kind_of conditional κs = ternary ∷ κs
kind_of returns κs = κs
kind_of (binary ops) κs = plain ops ∷ κs

unfoldable pub kinds_of : List Pass → List Kind
kinds_of [] = []
kinds_of (p ∷ ps) = kind_of p (kinds_of ps)

-- The levels under the rules of a version, the tightest first.
unfoldable pub levels : Rules → List Kind
levels r = kinds_of (order r)

-- The number of levels from an operator's own on; 0 for what is no operator of any.
unfoldable pub rank_in : List Kind → ℕ → ℕ
rank_in [] n = 0
rank_in (κ ∷ κs) n = elim (is_one_of (operators_in κ) n) [ true ↦ suc (length κs) | false ↦ rank_in κs n ]

unfoldable pub rank : Rules → ℕ → ℕ
rank r n = rank_in (levels r) n

-- The rank of a conditional that pairs to the right, 0 where none does.
unfoldable pub pairing : Rules → ℕ
pairing r = elim r.pairs_right [ true ↦ rank r Operator.conditional | false ↦ 0 ]
