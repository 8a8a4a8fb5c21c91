-- The bits of a number: of `&`, of `|`, of a number that is given by its bits; that a number is not 0 where it has a bit; and
-- `some_below`, by which the definition says that two sets share something. Assumes nothing.
use mathlib.Core.{Path.{◌≡◌, refl, sym, ap, ap₂, ◌∙◌}, Bool.{Bool, true, false, not, ◌&&◌, ◌||◌}}
use Prim.Native.Nat.{ℕ, zero, suc, ◌+◌, ◌*◌, ◌/◌, ◌%◌, ◌^◌, ◌<◌, min, max}
use native.Mathlib.{Nat.{div-one, zero-div, pow-suc, div-lt_iff_lt-mul}, Numerals.{one-add}, Omega.{arith}}
use lib.{Arith.{digits_mod}, Dec.{eqb, ltb, eqb-suc-zero, lit<}, Pow.{shr-shr}, Bits.{bit_and, bit_or, and_shr, or_shr, and_step, or_step}}
use borrow.Author.Tests.{ne_eqb}
use Rattle.molang.{specs.Order.{some_below}, specs.Read.{set_number}, proofs.UsedSet.{number-bits}}
use Rattle.ops.specs.Classes.{bit_at}

pub bit-low : (w : ℕ) → bit_at w 0 ≡ eqb (w % 2) 1
bit-low w = unfold bit_at in rw (div-one w)

pub bit_up : (w i : ℕ) → bit_at w (suc i) ≡ bit_at (w / 2) i
bit_up w i = unfold bit_at in rw (← one-add i, ← shr-shr w 1 i)

pub bit-zero : (i : ℕ) → bit_at 0 i ≡ false
bit-zero i = unfold bit_at in rw (zero-div (2 ^ i))

and-digit : (a b : ℕ) → bit_and a b % 2 ≡ min (a % 2) (b % 2)
and-digit a b = ap (λ (m : ℕ). m % 2) (and_step a b) ∙ digits_mod (bit_and (a / 2) (b / 2)) (omega arith)

or-digit : (a b : ℕ) → bit_or a b % 2 ≡ max (a % 2) (b % 2)
or-digit a b = ap (λ (m : ℕ). m % 2) (or_step a b) ∙ digits_mod (bit_or (a / 2) (b / 2)) (omega arith)

min-test : (p q : ℕ) → p < 2 → q < 2 → eqb (min p q) 1 ≡ (eqb p 1 && eqb q 1)
min-test zero zero hp hq = refl
min-test zero (suc zero) hp hq = refl
min-test zero (suc (suc q)) hp hq = absurd (omega arith)
min-test (suc zero) zero hp hq = refl
min-test (suc zero) (suc zero) hp hq = refl
min-test (suc zero) (suc (suc q)) hp hq = absurd (omega arith)
min-test (suc (suc p)) q hp hq = absurd (omega arith)

max-test : (p q : ℕ) → p < 2 → q < 2 → eqb (max p q) 1 ≡ (eqb p 1 || eqb q 1)
max-test zero zero hp hq = refl
max-test zero (suc zero) hp hq = refl
max-test zero (suc (suc q)) hp hq = absurd (omega arith)
max-test (suc zero) zero hp hq = refl
max-test (suc zero) (suc zero) hp hq = refl
max-test (suc zero) (suc (suc q)) hp hq = absurd (omega arith)
max-test (suc (suc p)) q hp hq = absurd (omega arith)

pub bit-and : (a b i : ℕ) → bit_at (bit_and a b) i ≡ (bit_at a i && bit_at b i)
unfolding bit_at
bit-and a b i =
    rw (and_shr a b i, and-digit (a / 2 ^ i) (b / 2 ^ i)) (min-test (a / 2 ^ i % 2) (b / 2 ^ i % 2) (omega arith) (omega arith))

pub bit-or : (a b i : ℕ) → bit_at (bit_or a b) i ≡ (bit_at a i || bit_at b i)
unfolding bit_at
bit-or a b i =
    rw (or_shr a b i, or-digit (a / 2 ^ i) (b / 2 ^ i)) (max-test (a / 2 ^ i % 2) (b / 2 ^ i % 2) (omega arith) (omega arith))

-- A number by its bits.
pub bits_of : (f : ℕ → Bool) (k i : ℕ) → bit_at (set_number f k) i ≡ (ltb i k && f i)
bits_of f k i = unfold bit_at in number-bits f k i

-- A test that fails below k, and two tests that agree below k.
pub none_below : (k : ℕ) (f : ℕ → Bool) → ((n : ℕ) → n < k → f n ≡ false) → some_below k f ≡ false
unfolding some_below
none_below zero f e = refl
none_below (suc k) f e = rw (e k (omega arith)) (none_below k f (λ n h. e n (omega arith)))

pub some_same : (k : ℕ) (f g : ℕ → Bool) → ((i : ℕ) → i < k → f i ≡ g i) → some_below k f ≡ some_below k g
unfolding some_below
some_same zero f g same = refl
some_same (suc k) f g same =
    ap₂ (λ (a b : Bool). a || b) (same k (omega arith)) (some_same k f g (λ i below. same i (omega arith)))

or_swap : (a b c : Bool) → (a || (b || c)) ≡ (b || (a || c))
or_swap true true c = refl
or_swap true false c = refl
or_swap false b c = refl

-- The lowest number first.
some-low : (k : ℕ) (f : ℕ → Bool) → some_below (suc k) f ≡ (f 0 || some_below k (λ i. f (suc i)))
unfolding some_below
some-low zero f = refl
some-low (suc k) f =
    ap (λ (b : Bool). f (suc k) || b) (some-low k f) ∙ or_swap (f (suc k)) (f 0) (some_below k (λ i. f (suc i)))

-- A number by its lowest digit d and the rest h.
nonzero-digit : (w d h : ℕ) → w ≡ 2 * h + d → d < 2 → not (eqb w 0) ≡ (eqb d 1 || not (eqb h 0))
nonzero-digit w zero zero e small = let z : w ≡ 0 = omega arith in rw z
nonzero-digit w zero (suc h) e small = rw (ne_eqb w 0 (λ z. omega arith), eqb-suc-zero h)
nonzero-digit w (suc zero) h e small = rw (ne_eqb w 0 (λ z. omega arith))
nonzero-digit w (suc (suc d)) h e small = absurd (omega arith)

-- A number below 2 ^ k is not 0 where it has a bit.
pub nonzero : (k w : ℕ) → w < 2 ^ k → not (eqb w 0) ≡ some_below k (bit_at w)
unfolding some_below
nonzero zero w small = let z : w ≡ 0 = omega arith in rw z
nonzero (suc k) w small =
    nonzero-digit w (w % 2) (w / 2) (omega arith) (omega arith)
    ∙ (ap₂ (λ (a b : Bool). a || b) (sym (bit-low w))
    (nonzero k (w / 2) ((div-lt_iff_lt-mul (lit< tt)).1 (rw (pow-suc 2 k) at small))
    ∙ some_same k (bit_at (w / 2)) (λ i. bit_at w (suc i)) (λ i below. sym (bit_up w i)))
    ∙ sym (some-low k (bit_at w)))
