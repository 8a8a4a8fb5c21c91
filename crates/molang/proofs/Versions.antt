-- Every version reads as 4, 5 or 6 does, so that a line of the table which is answered alike at these three is answered so at all.
use Prim.Native.Nat.{ℕ, ◌≤◌, min}
use native.Mathlib.Omega.{arith}
use mathlib.Core.{Path.{◌≡◌, refl}, Bool.{Bool, true, false}, List.{List}}
use lib.{Dec.{T, leb, leb→le, le→leb}, IntN.{ℤ, pos, negsuc}}
use Rattle.molang.specs.{Forest.{Token}, Order.{effective, is_from, Rules, rules}, Read.{read}}

-- The one of 4, 5 and 6 that a version reads as.
abbrev pub reads_as : ℤ → ℤ
reads_as (negsuc n) = pos 4
reads_as (pos n) = elim (leb 6 n) [ true ↦ pos 6 | false ↦ elim (leb 5 n) [ true ↦ pos 5 | false ↦ pos 4 ] ]

same : (a b : Bool) → (T a → T b) → (T b → T a) → a ≡ b
same true true f g = refl
same true false f g = absurd (f tt)
same false true f g = absurd (g tt)
same false false f g = refl

-- Acting as 13 changes no test against a number up to 13.
leb-min : (k n : ℕ) → k ≤ 13 → leb k (min n 13) ≡ leb k n
leb-min k n h =
    same (leb k (min n 13)) (leb k n) (λ t. le→leb k n (omega (arith, leb→le k (min n 13) t)))
    (λ t. le→leb k (min n 13) (omega (arith, leb→le k n t)))

tested : Bool → Bool → Rules
tested from6 from5 = record { comparisons_first = from6; and_first = from6; pairs_right = from5 }

three :
    (from6 from5 : Bool) → (T from6 → T from5)
    → tested from6 from5 ≡ rules (elim from6 [ true ↦ pos 6 | false ↦ elim from5 [ true ↦ pos 5 | false ↦ pos 4 ] ])
unfolding tested rules is_from effective
three true true h = refl
three true false h = absurd (h tt)
three false true h = refl
three false false h = refl

pub rules-of-three : (v : ℤ) → rules v ≡ rules (reads_as v)
unfolding tested rules is_from effective
rules-of-three (negsuc n) = refl
rules-of-three (pos n) =
    rw (leb-min 6 n (omega arith), leb-min 5 n (omega arith)) (three (leb 6 n) (leb 5 n) (λ t. le→leb 5 n (omega (arith, leb→le 6 n t))))

pub reads_as_lem : (tokens : List Token) (u : ℕ → Bool) (v : ℤ) (source_length : ℕ)
    → read tokens u v source_length ≡ read tokens u (reads_as v) source_length
reads_as_lem tokens u v source_length = unfold read in rw (rules-of-three v)
