-- A set of operators in two halves: the empty one, and one with another operator in it. Assumes nothing.
use mathlib.Core.{Path.{◌≡◌, refl, sym, ap, ◌∙◌}, Bool.{Bool, true, false, ◌||◌, or-false}}
use Prim.Native.Nat.{ℕ, zero, suc, ◌-◌, ◌*◌, ◌/◌, ◌%◌, ◌^◌, ◌<◌, ◌≤◌}
use native.Mathlib.{Nat.{pow-suc, zero-div, one-mul}, Omega.{arith}}
use lib.{Bits.{bit_or, or_lt}, Dec.{eqb, ltb, lit<, eqb-suc-zero, eqb-zero-suc, eqb-suc-suc}, Pow.{pow-lt, shl_exact}}
use borrow.Author.Tests.{ltb-true, ltb-false, eqb-true, eqb-false, eq-eqb, ne_eqb}
use Rattle.molang.specs.Parse.{in_halves}
use Rattle.ops.{specs.Classes.{bit_at}, proofs.BitLaws.{bit-low, bit_up, bit-zero, bit-or}, proofs.SetLaws.{in-low, in-high}}

-- Nothing is in the empty set.
pub in-none : (n : ℕ) → in_halves 0 0 n ≡ false
in-none n = unfold in_halves in rw (zero-div (2 ^ n))

-- The bits of a power of two.
bit-power : (k i : ℕ) → bit_at (2 ^ k) i ≡ eqb k i
bit-power zero zero = bit-low 1
bit-power zero (suc i) = bit_up 1 i ∙ (bit-zero i ∙ sym (eqb-zero-suc i))
bit-power (suc k) zero =
    let even : 2 ^ suc k % 2 ≡ 0 = rw (pow-suc 2 k) (omega arith) in bit-low (2 ^ suc k) ∙ (rw even (sym (eqb-suc-zero k)))
bit-power (suc k) (suc i) =
    let half : 2 ^ suc k / 2 ≡ 2 ^ k = rw (pow-suc 2 k) (omega arith) in
    bit_up (2 ^ suc k) i ∙ (ap (λ (m : ℕ). bit_at m i) half ∙ (bit-power k i ∙ sym (eqb-suc-suc k i)))

-- The code's one bit: a 1, shifted.
pub one_bit : (k : ℕ) → k < 64 → 1 * 2 ^ k % 2 ^ 64 ≡ 2 ^ k
one_bit k below = shl_exact 1 k 64 (lit< tt) (omega arith) ∙ one-mul (2 ^ k)

-- A half with one more bit.
more : (l k i : ℕ) → bit_at (bit_or l (2 ^ k)) i ≡ (bit_at l i || eqb k i)
more l k i = bit-or l (2 ^ k) i ∙ ap (λ (b : Bool). bit_at l i || b) (bit-power k i)

apart : (l h op n : ℕ) → (op ≡ n → ⊥) → in_halves l h n ≡ (in_halves l h n || eqb op n)
apart l h op n other = sym (ap (λ (b : Bool). in_halves l h n || b) (ne_eqb op n other) ∙ or-false (in_halves l h n))

module _ (l h op : ℕ) (small : l < 2 ^ 64) where
  -- An operator of the low half is put in.
  pub with-low : op < 64 → (n : ℕ) → in_halves (bit_or l (2 ^ op)) h n ≡ (in_halves l h n || eqb op n)
  unfolding bit_at
  with-low below n = go (ltb n 64) refl
    where
      fits : bit_or l (2 ^ op) < 2 ^ 64
      fits = or_lt 64 l (2 ^ op) small (pow-lt below)

      go : (b : Bool) → ltb n 64 ≡ b → in_halves (bit_or l (2 ^ op)) h n ≡ (in_halves l h n || eqb op n)
      go true e =
          let low = ltb-true n 64 e in
          sym (in-low (bit_or l (2 ^ op)) h fits n low) ∙ (more l op n ∙ ap (λ (b : Bool). b || eqb op n) (in-low l h small n low))
      go false e =
          let high = ltb-false n 64 e in
          sym (in-high (bit_or l (2 ^ op)) h fits n high) ∙ (in-high l h small n high ∙ apart l h op n (λ same. omega arith))

  -- One of the high half is.
  pub with-high : 64 ≤ op → (n : ℕ) → in_halves l (bit_or h (2 ^ (op - 64))) n ≡ (in_halves l h n || eqb op n)
  unfolding bit_at
  with-high above n = go (ltb n 64) refl
    where
      shifted : 64 ≤ n → eqb (op - 64) (n - 64) ≡ eqb op n
      shifted high = both (eqb op n) refl
        where
          both : (b : Bool) → eqb op n ≡ b → eqb (op - 64) (n - 64) ≡ b
          both true e = eq-eqb (op - 64) (n - 64) (ap (λ (m : ℕ). m - 64) (eqb-true op n e))
          both false e = ne_eqb (op - 64) (n - 64) (λ same. eqb-false op n e (omega arith))

      go : (b : Bool) → ltb n 64 ≡ b → in_halves l (bit_or h (2 ^ (op - 64))) n ≡ (in_halves l h n || eqb op n)
      go true e =
          let low = ltb-true n 64 e in
          sym (in-low l (bit_or h (2 ^ (op - 64))) small n low) ∙ (in-low l h small n low ∙ apart l h op n (λ same. omega arith))
      go false e =
          let high = ltb-false n 64 e in
          sym (in-high l (bit_or h (2 ^ (op - 64))) small n high)
          ∙ (more h (op - 64) (n - 64)
          ∙
          (ap (λ (b : Bool). b || eqb (op - 64) (n - 64)) (in-high l h small n high)
          ∙ ap (λ (b : Bool). in_halves l h n || b) (shifted high)))
