-- What each constant of `TokenClasses` stands for: a leaf is in one of its classes where its operator is one of the pass's that the
-- constant belongs to, and ALL has every class. One test over every operator number and every bit, which antt computes. Assumes nothing.
use mathlib.Core.{Path.{◌≡◌}, Bool.{Bool, true, ◌&&◌}, List.{List, [], ◌∷◌}}
use Prim.Native.Nat.{ℕ, ◌<◌}
use native.Mathlib.Omega.{arith}
use lib.Dec.{T}
use Rattle.molang.specs.{Operator.{any, is_one_of, between, is_math_call, is_query_or_loop}, Order.{some_below}}
use Rattle.molang.proofs.OperatorNumbers.{no-math}
use Rattle.ops.specs.{Constants.{Constant, only, math, every, constants}, Classes.{pass_classes, own_classes, in_class, bit_at, meets}}
use Rattle.ops.proofs.{OperatorLaws.{agree, passes, true-at, and_left, and_right}, ClassLaws.{stands-for, stands_for_only, stands-for-only}}

abbrev all-agree : List Constant → Bool
all-agree [] = true
all-agree (only w os ∷ ks) = stands_for_only w os && all-agree ks
all-agree (math w ∷ ks) = agree (meets w) is_math_call 111 && all-agree ks
all-agree (every w ∷ ks) = passes (bit_at w) 0 32 && all-agree ks

-- Each of the list, at every number, and of every class each bit.
abbrev pub Stand : List Constant → Type 0
Stand [] = Unit {0}
Stand (only w os ∷ ks) = ((n : ℕ) → meets w n ≡ is_one_of os n) × Stand ks
Stand (math w ∷ ks) = ((n : ℕ) → meets w n ≡ is_math_call n) × Stand ks
Stand (every w ∷ ks) = ((i : ℕ) → i < 32 → true ≡ bit_at w i) × Stand ks

each_stands : (ks : List Constant) → T (all-agree ks) → Stand ks
each_stands [] t = tt
each_stands (only w os ∷ ks) t =
    let here = stands_for_only w os in
    (stands-for-only w os (and_left here (all-agree ks) t), each_stands ks (and_right here (all-agree ks) t))
each_stands (math w ∷ ks) t =
    let here = agree (meets w) is_math_call 111 in
    (stands-for w is_math_call (and_left here (all-agree ks) t) no-math, each_stands ks (and_right here (all-agree ks) t))
each_stands (every w ∷ ks) t =
    let here = passes (bit_at w) 0 32 in (
      λ i below. true-at (bit_at w) 0 32 (and_left here (all-agree ks) t) i (omega arith) (omega arith),
      each_stands ks (and_right here (all-agree ks) t),
    )

pub constants-stand : Stand constants
unfolding any is_one_of between is_math_call is_query_or_loop some_below pass_classes own_classes in_class bit_at meets
constants-stand = each_stands constants tt
