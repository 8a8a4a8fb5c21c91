-- Versions, which are signed: what the code's comparisons with a literal say of the definition's `effective` and `is_from`.
-- Assumes nothing.
use mathlib.Core.{Path.{◌≡◌, refl, ap}, Bool.{Bool, true, false, cond}}
use Prim.Native.Nat.{ℕ, min}
use native.Mathlib.Omega.{arith}
use lib.{IntN.{ℤ, pos, negsuc}, Signed.{le_z}, Dec.{ltb}}
use Rattle.std.specs.Int.{int_max, int_min}
use borrow.Author.Tests.{ltb-true, ltb-false}
use Rattle.molang.specs.Order.{effective, is_from}

pub from : (n : ℕ) (v : ℤ) → le_z (pos n) v ≡ is_from n v
unfolding is_from
from n (pos m) = refl
from n (negsuc m) = refl

pub clamped : (v : ℤ) → int_max (negsuc 0) (int_min v (pos 13)) ≡ effective v
unfolding effective
clamped (pos n) = go (ltb 13 n) refl
  where
    go : (t : Bool) → ltb 13 n ≡ t → int_max (negsuc 0) (cond t (pos 13) (pos n)) ≡ pos (min n 13)
    go true e = ap pos (omega (arith, ltb-true 13 n e))
    go false e = ap pos (omega (arith, ltb-false 13 n e))
clamped (negsuc n) = go (ltb 0 n) refl
  where
    go : (t : Bool) → ltb 0 n ≡ t → cond t (negsuc 0) (negsuc n) ≡ negsuc 0
    go true e = refl
    go false e = ap negsuc (omega (arith, ltb-false 0 n e))
