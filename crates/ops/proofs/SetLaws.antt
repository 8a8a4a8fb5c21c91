-- Sets of operators in two halves of 64 bits: the bits of each half in the whole, and the math calls. Assumes nothing.
use mathlib.Core.{Path.{◌≡◌, refl, sym, ap, ◌∙◌}, List.{List, [], ◌∷◌}, Bool.{Bool, true, false, not, ◌&&◌, ◌||◌, and-false, or-false}}
use Prim.Native.Nat.{ℕ, ◌+◌, ◌-◌, ◌*◌, ◌/◌, ◌%◌, ◌^◌, ◌<◌, ◌≤◌}
use native.Mathlib.{Nat.{div-eq_of_lt, lt_of_lt_of_le, lt_of_le_of_lt}, Omega.{arith}}
use lib.{Arith.{digits_lt}, Dec.{eqb, ltb}, Pow.{pow_mono, shr-shr, high, low, field, mod-mod-pow}, Bits.{bit_and, and_le_l, and_block}}
use borrow.Author.Tests.{lt-ltb, le-ltb, ltb-true, ltb-false, eqb-true, eqb-false, ne_eqb}
use Rattle.molang.specs.{Operator.{any, is_math_call, between}, Order.{some_below}, Parse.{in_halves}}
use Rattle.std.specs.List.{list_any}
use Rattle.ops.specs.Classes.{bit_at}
use Rattle.ops.proofs.{OperatorLaws.{agree_at}, BitLaws.{nonzero, some_same, bit-and}}

module _ (l h : ℕ) (small : l < 2 ^ 64) where
  -- The bits below the high half's are the low half's.
  low-rest : (n : ℕ) → n < 64 → (h * 2 ^ 64 + l) % 2 ^ (1 + n) ≡ l % 2 ^ (1 + n)
  low-rest n below =
      let e : (63 - n) + (1 + n) ≡ 64 = omega arith in
      sym (mod-mod-pow (h * 2 ^ 64 + l) (63 - n) (1 + n))
      ∙ ap (λ (m : ℕ). m % 2 ^ (1 + n)) (ap (λ (k : ℕ). (h * 2 ^ 64 + l) % 2 ^ k) e ∙ low h 64 small)

  -- An operator of the low half.
  pub in-low : (n : ℕ) → n < 64 → eqb (l / 2 ^ n % 2) 1 ≡ in_halves l h n
  unfolding in_halves
  in-low n below =
      ap (λ (m : ℕ). eqb m 1)
      (sym (field l 1 n) ∙ (ap (λ (m : ℕ). m / 2 ^ n) (sym (low-rest n below)) ∙ field (h * 2 ^ 64 + l) 1 n))

  -- An operator of the high half.
  pub in-high : (n : ℕ) → 64 ≤ n → eqb (h / 2 ^ (n - 64) % 2) 1 ≡ in_halves l h n
  unfolding in_halves
  in-high n above =
      let e : 64 + (n - 64) ≡ n = omega arith in
      ap (λ (m : ℕ). eqb (m % 2) 1)
      (ap (λ (m : ℕ). m / 2 ^ (n - 64)) (sym (high h 64 small))
      ∙ (shr-shr (h * 2 ^ 64 + l) 64 (n - 64) ∙ ap (λ (k : ℕ). (h * 2 ^ 64 + l) / 2 ^ k) e))

  pub legal : ltb h (2 ^ 47) ≡ ltb (h * 2 ^ 64 + l) (2 ^ 111)
  legal = go (ltb h (2 ^ 47)) refl
    where
      go : (t : Bool) → ltb h (2 ^ 47) ≡ t → t ≡ ltb (h * 2 ^ 64 + l) (2 ^ 111)
      go true e = sym (lt-ltb (h * 2 ^ 64 + l) (2 ^ 111) (omega (arith, ltb-true h (2 ^ 47) e)))
      go false e = sym (le-ltb (h * 2 ^ 64 + l) (2 ^ 111) (omega (arith, ltb-false h (2 ^ 47) e)))

  -- No operator has a number above 127.
  pub past : h < 2 ^ 64 → (n : ℕ) → 128 ≤ n → false ≡ in_halves l h n
  unfolding in_halves
  past fits n above =
      let below : h * 2 ^ 64 + l < 2 ^ 128 = digits_lt fits small in
      sym (ap (λ (m : ℕ). eqb (m % 2) 1) (div-eq_of_lt (lt_of_lt_of_le below (pow_mono above))))

-- A number in two halves is not 0 where one of them is not.
either : (x y : ℕ) → (not (eqb x 0) || not (eqb y 0)) ≡ not (eqb (y * 2 ^ 64 + x) 0)
either x y = go (eqb x 0) (eqb y 0) refl refl
  where
    go : (p q : Bool) → eqb x 0 ≡ p → eqb y 0 ≡ q → (not p || not q) ≡ not (eqb (y * 2 ^ 64 + x) 0)
    go true true e e' = rw (eqb-true x 0 e, eqb-true y 0 e')
    go true false e e' = rw (ne_eqb (y * 2 ^ 64 + x) 0 (λ z. eqb-false y 0 e' (omega arith)))
    go false q e e' = rw (ne_eqb (y * 2 ^ 64 + x) 0 (λ z. eqb-false x 0 e (omega arith)))

-- Two sets share an operator where the `&` of their low or of their high halves is not 0.
pub common : (l h l' h' : ℕ) → l < 2 ^ 64 → h < 2 ^ 64 → l' < 2 ^ 64
    → (not (eqb (bit_and l l') 0) || not (eqb (bit_and h h') 0)) ≡ some_below 128 (λ n. in_halves l h n && in_halves l' h' n)
unfolding in_halves bit_at
common l h l' h' sl sh sl' =
    let below : h * 2 ^ 64 + l < 2 ^ 128 = digits_lt sh sl in
    either (bit_and l l') (bit_and h h')
    ∙ (ap (λ (m : ℕ). not (eqb m 0)) (sym (and_block 64 h h' l l' sl sl'))
    ∙ (nonzero 128 (bit_and (h * 2 ^ 64 + l) (h' * 2 ^ 64 + l')) (lt_of_le_of_lt (and_le_l (h * 2 ^ 64 + l) (h' * 2 ^ 64 + l')) below)
    ∙ some_same 128 (bit_at (bit_and (h * 2 ^ 64 + l) (h' * 2 ^ 64 + l'))) (λ n. in_halves l h n && in_halves l' h' n)
    (λ n low. bit-and (h * 2 ^ 64 + l) (h' * 2 ^ 64 + l') n)))

-- The math calls, as the code has them in two halves.
pub math-calls : (n : ℕ) → n < 128 → in_halves 0xff_7fef_fd00 0x7fff_ffff_c000 n ≡ is_math_call n
math-calls n below = unfold in_halves is_math_call between in agree_at (in_halves 0xff_7fef_fd00 0x7fff_ffff_c000) is_math_call 128 tt n below

-- A used set has a math call: above operator 110 there is none.
pub math-used : (l h : ℕ)
    → some_below 128 (λ n. in_halves l h n && in_halves 0xff_7fef_fd00 0x7fff_ffff_c000 n)
    ≡ some_below 111 (λ n. in_halves l h n && is_math_call n)
unfolding some_below is_math_call between
math-used l h =
    some_same 128 (λ n. in_halves l h n && in_halves 0xff_7fef_fd00 0x7fff_ffff_c000 n) (λ n. in_halves l h n && is_math_call n)
    (λ n below. ap (λ (b : Bool). in_halves l h n && b) (math-calls n below))
    ∙ simp and-false

-- ---- Tests one after another

-- The library's `any` over a list is the definition's.
pub any-listed : (u : ℕ → Bool) (os : List ℕ) → list_any u os ≡ any u os
unfolding any
any-listed u [] = refl
any-listed u (o ∷ os) = rw (any-listed u os) refl

pub one-used : (u : ℕ → Bool) (a : ℕ) → u a ≡ any u (a ∷ [])
one-used u a = unfold any in sym (or-false (u a))
