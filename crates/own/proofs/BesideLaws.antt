-- Words beside each other, one by one. Assumes nothing.
use Prim.Native.Nat.{ℕ, suc}
use mathlib.Core.{Path.{◌≡◌, refl, ap}, Bool.{false, and-false}, List.{List, [], ◌∷◌}}
use lib.{Dec.{eqb}, Pointwise.{pointwise}, ListN.{length}}
use Rattle.molang.specs.Lift.{eq_words}

-- The library's `==` is the definition's.
pub same_pointwise : (xs ys : List ℕ) → pointwise eqb xs ys ≡ eq_words xs ys
unfolding eq_words
same_pointwise [] [] = refl
same_pointwise [] (y ∷ ys) = refl
same_pointwise (x ∷ xs) [] = refl
same_pointwise (x ∷ xs) (y ∷ ys) = rw (same_pointwise xs ys) refl

-- Words of another count differ.
pub counts-differ : (xs ys : List ℕ) → (length xs ≡ length ys → ⊥) → eq_words xs ys ≡ false
unfolding eq_words
counts-differ [] [] h = absurd (h refl)
counts-differ [] (y ∷ ys) h = refl
counts-differ (x ∷ xs) [] h = refl
counts-differ (x ∷ xs) (y ∷ ys) h = rw (counts-differ xs ys (λ e. h (ap suc e))) (and-false (eqb x y))
