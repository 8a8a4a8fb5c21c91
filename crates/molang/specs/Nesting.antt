-- How deep the brackets of a list nest, and where it goes above a limit (document 02, card 8). The count is by the list alone.
use Rattle.std.specs.Prelude.{ℕ, suc, ◌-◌, true, false, List, [], ◌∷◌, leb}
use Rattle.std.proofs.Math.Option.{Option, none, some}
use Rattle.molang.specs.Operator.{closing_of, is_closer}
use Rattle.molang.specs.Forest.{Token}
use Rattle.molang.specs.FirstFailure.{must, first_of}

-- The number of brackets open after an operator: an opener adds one, any closer takes one unless none is open.
unfoldable pub open_after : ℕ → ℕ → ℕ
open_after depth n = elim (closing_of n) [ some c ↦ suc depth | none ↦ elim (is_closer n) [ true ↦ depth - 1 | false ↦ depth ] ]

-- The index of the first token after which more than `limit` are open, of those that follow; i is the next one's.
unfoldable pub first_above : ℕ → ℕ → ℕ → List Token → Option ℕ
first_above limit i depth [] = none
first_above limit i depth (k ∷ ks) =
    let after = open_after depth k.op in first_of (must (leb after limit) i ∷ first_above limit (suc i) after ks ∷ [])

-- Answer 18's place: the token index of the first opener with which the open count is above the limit.
unfoldable pub too_deep : ℕ → List Token → Option ℕ
too_deep limit ks = first_above limit 0 0 ks
