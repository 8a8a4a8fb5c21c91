-- What the code's answers about operators mean in the definition: an opener is what has a closer, what a bracket adds to the open ones,
-- and each case of `BeforeMinus` is the definition's case of that name.
use Rattle.std.specs.Prelude.{ℕ, Bool, true, false}
use Rattle.std.proofs.Math.Option.{none, some}
use Rattle.molang.specs.Operator.{closing_of, is_closer}
use Rattle.molang.specs.Operator as definition
use Rattle.ops.specs.declared.BeforeMinus.{BeforeMinus}
use Rattle.ops.specs.declared.BeforeMinus.TheVariants.{Operand, Operator, Minus, Unknown}

-- The operator has a closer.
unfoldable pub is_opener : ℕ → Bool
is_opener n = elim (closing_of n) [ none ↦ false | some c ↦ true ]

-- What an operator adds to the number of open brackets, and one: an opener 2, a closer 0, anything else 1.
unfoldable pub raise_of : ℕ → ℕ
raise_of n = elim (closing_of n) [ some c ↦ 2 | none ↦ elim (is_closer n) [ true ↦ 0 | false ↦ 1 ] ]

-- What stands before a minus, in the definition's words.
abbrev pub meant : BeforeMinus → definition.BeforeMinus
meant Operand = definition.operand
meant Operator = definition.operator
meant Minus = definition.minus
meant Unknown = definition.unknown
