-- Used sets by their bits: one without operators above 110 is a number below 2 ^ 111, which the entry does not turn back; and two halves
-- with exactly a set's operators are the halves of its number.
use Prim.Native.Nat.{ℕ, zero, suc, ◌+◌, ◌*◌, ◌/◌, ◌%◌, ◌^◌, ◌≤◌, ◌<◌}
use mathlib.Core.{Path.{◌≡◌, refl, ap, sym, ◌∙◌, fun_ext}, Bool.{Bool, true, false, ◌&&◌, false≢true}}
use native.Mathlib.{Nat.{div-one, pow-suc}, Omega.{arith}}
use lib.{Dec.{eqb, ltb, leb-zero, leb-suc-zero, leb-suc-suc, eqb-zero-suc, eqb-suc-zero, eqb-suc-suc}, Pow.{shr-shr, shr_le, split}}
use borrow.Author.Tests.{eqb-false, eq-eqb, ne_eqb, leb-false}
use Rattle.molang.specs.{Read.{set_number}, Parse.{in_halves}}

-- A number without bits is 0; n is at least the number.
no_bits : (n q : ℕ) → q ≤ n → ((j : ℕ) → q / 2 ^ j % 2 ≡ 0) → q ≡ 0
no_bits zero q b h = omega arith
no_bits (suc n) q b h =
    let half = no_bits n (q / 2 ^ 1) (omega arith) (λ j. ap (λ (m : ℕ). m % 2) (shr-shr q 1 j) ∙ h (1 + j)) in omega (arith, h 0)

-- The used set's number is below 2 ^ 111 if it has no bit above operator 110.
pub used-few : (low high : ℕ) → ((m : ℕ) → 111 ≤ m → in_halves low high m ≡ false) → high * 2 ^ 64 + low < 2 ^ 111
unfolding in_halves
used-few low high h =
    let u = high * 2 ^ 64 + low in
    let none = no_bits (u / 2 ^ 111) (u / 2 ^ 111) (omega arith)
    (λ j.
    let bit = eqb-false (u / 2 ^ (111 + j) % 2) 1 (h (111 + j) (omega arith)) in
    let gone : u / 2 ^ (111 + j) % 2 ≡ 0 = omega arith in ap (λ (m : ℕ). m % 2) (shr-shr u 111 j) ∙ gone) in
    omega arith

-- The bits of a set's number: those of the set below n, and no others.
last_bit : (x : ℕ) (b : Bool) → eqb ((x * 2 + elim b [ true ↦ 1 | false ↦ 0 ]) / 2 ^ 0 % 2) 1 ≡ b
last_bit x true = eq-eqb ((x * 2 + 1) / 2 ^ 0 % 2) 1 (omega arith)
last_bit x false = ne_eqb ((x * 2 + 0) / 2 ^ 0 % 2) 1 (λ e. omega arith)

other-bits : (x : ℕ) (b : Bool) → (x * 2 + elim b [ true ↦ 1 | false ↦ 0 ]) / 2 ^ 1 ≡ x
other-bits x true = omega arith
other-bits x false = omega arith

pub number-bits : (f : ℕ → Bool) (n m : ℕ) → eqb (set_number f n / 2 ^ m % 2) 1 ≡ (ltb m n && f m)
unfolding set_number
number-bits f zero m = rw (leb-suc-zero m) (ne_eqb (0 / 2 ^ m % 2) 1 (λ e. omega (arith, shr_le 0 m)))
number-bits f (suc n) zero = rw (leb-suc-suc 0 n, leb-zero n) (last_bit (set_number (λ m. f (suc m)) n) (f 0))
number-bits f (suc n) (suc m) =
    let x = set_number f (suc n) in
    let next : suc m ≡ 1 + m = omega arith in
    rw (leb-suc-suc (suc m) n)
    (ap (λ (q : ℕ). eqb (q % 2) 1)
    (ap (λ (j : ℕ). x / 2 ^ j) next ∙ sym (shr-shr x 1 m) ∙ ap (λ (q : ℕ). q / 2 ^ m) (other-bits (set_number (λ m. f (suc m)) n) (f 0)))
    ∙ number-bits (λ m. f (suc m)) n m)

set-bits : (f : ℕ → Bool) (n : ℕ) → ((m : ℕ) → n ≤ m → f m ≡ false) → (m : ℕ) → eqb (set_number f n / 2 ^ m % 2) 1 ≡ f m
set-bits f n h m = number-bits f n m ∙ below (ltb m n) refl
  where
    below : (b : Bool) → ltb m n ≡ b → (b && f m) ≡ f m
    below true e = refl
    below false e = sym (h m (omega (arith, leb-false (suc m) n e)))

-- In two halves too.
pub halves-exact : (f : ℕ → Bool) → ((m : ℕ) → 111 ≤ m → f m ≡ false)
    → (m : ℕ) → in_halves (set_number f 111 % 2 ^ 64) (set_number f 111 / 2 ^ 64) m ≡ f m
halves-exact f h m = unfold in_halves in ap (λ (q : ℕ). eqb (q / 2 ^ m % 2) 1) (split (set_number f 111) 64) ∙ set-bits f 111 h m

-- Numbers with the same bits are the same; n is at least either.
same_bits : (n p q : ℕ) → p ≤ n → q ≤ n → ((j : ℕ) → eqb (p / 2 ^ j % 2) 1 ≡ eqb (q / 2 ^ j % 2) 1) → p ≡ q
same_bits zero p q a b h = omega arith
same_bits (suc n) p q a b h =
    let half : p / 2 ^ 1 ≡ q / 2 ^ 1 =
    same_bits n (p / 2 ^ 1) (q / 2 ^ 1) (omega arith) (omega arith)
    (λ j. ap (λ (m : ℕ). eqb (m % 2) 1) (shr-shr p 1 j) ∙ (h (1 + j) ∙ sym (ap (λ (m : ℕ). eqb (m % 2) 1) (shr-shr q 1 j))))
    in
    let last : p % 2 ≡ q % 2 = same-digit (p % 2) (q % 2) (omega arith) (omega arith) (sym (first p) ∙ (h 0 ∙ first q)) in omega arith
  where
    first : (m : ℕ) → eqb (m / 2 ^ 0 % 2) 1 ≡ eqb (m % 2) 1
    first m = ap (λ (k : ℕ). eqb (k % 2) 1) (div-one m)

    same-digit : (a b : ℕ) → a < 2 → b < 2 → eqb a 1 ≡ eqb b 1 → a ≡ b
    same-digit zero zero l r e = refl
    same-digit zero (suc zero) l r e = absurd (false≢true e)
    same-digit zero (suc (suc b)) l r e = absurd (omega arith)
    same-digit (suc zero) zero l r e = absurd (false≢true (sym e))
    same-digit (suc zero) (suc zero) l r e = refl
    same-digit (suc zero) (suc (suc b)) l r e = absurd (omega arith)
    same-digit (suc (suc a)) b l r e = absurd (omega arith)

-- Two halves with exactly a set's operators are the halves of its number.
pub exact-halves : (low high : ℕ) (f : ℕ → Bool) → low < 2 ^ 64 → ((m : ℕ) → 111 ≤ m → f m ≡ false)
    → ((m : ℕ) → in_halves low high m ≡ f m)
    → (low ≡ set_number f 111 % 2 ^ 64) × (high ≡ set_number f 111 / 2 ^ 64)
unfolding in_halves
exact-halves low high f fits few exactly =
    let n = set_number f 111 in
    let u = high * 2 ^ 64 + low in
    let same : u ≡ n = same_bits (u + n) u n (omega arith) (omega arith) (λ j. exactly j ∙ sym (set-bits f 111 few j)) in
    (omega arith, omega arith)

-- The set without operators, and the set of one.
pub no-operators : (n : ℕ) → set_number (λ m. false) n ≡ 0
unfolding set_number
no-operators zero = refl
no-operators (suc n) = rw (no-operators n) refl

pub one-operator : (n o : ℕ) → o < n → set_number (eqb o) n ≡ 2 ^ o
unfolding set_number
one-operator zero o h = absurd (omega arith)
one-operator (suc n) zero h =
    let others : ◌≡◌ {A = ℕ → Bool} (λ m. eqb 0 (suc m)) (λ m. false) = fun_ext eqb-zero-suc in
    rw (others, no-operators n) refl
one-operator (suc n) (suc o) h =
    let others : ◌≡◌ {A = ℕ → Bool} (λ m. eqb (suc o) (suc m)) (eqb o) = fun_ext (eqb-suc-suc o) in
    rw (others, one-operator n o (omega arith), eqb-suc-zero o, pow-suc 2 o) (omega arith)
