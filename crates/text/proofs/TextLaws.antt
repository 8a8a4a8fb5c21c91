-- Texts laid one behind the other, and how long they are; the decimal digits that io writes are the definition's.
use Prim.Native.Nat.{ℕ, zero, suc, ◌+◌, ◌-◌, ◌*◌, ◌/◌, ◌%◌, ◌^◌, ◌≤◌, ◌<◌}
use mathlib.Core.{Path.{◌≡◌, refl, ap, sym, ◌∙◌}, Bool.{Bool, true, false}, List.{List, [], ◌∷◌, ◌++◌}}
use native.Mathlib.{Nat.{pow-le-pow_right}, Omega.{arith, pow_step}}
use lib.{Dec.{leb, ltb}, ListN.{length, take, drop, length-append}, Seq.{take_at}}
use borrow.Rule.Slice.PartMut.{put_mid}
use borrow.Author.Tests.{lt-ltb, le-ltb, leb-true, leb-false}
use Rattle.io.specs.Digits.{last_digits, hex_digit_ascii, IsDigitCount}
use Rattle.molang.specs.Parse.{in_front}
use Rattle.words.{specs.Records.{laid_at}, proofs.RecordLaws.{none-laid, laid-front, laid-laid}}
use Rattle.text.specs.Text.{decimal_in, decimal, numbered, Wrote}

-- Nothing is laid, and a text behind a text.
pub wrote_none : (out : List ℕ) (at : ℕ) → Wrote out at [] at out
wrote_none out at = record { ends = omega arith; whole = none-laid at out }

pub wrote_then : {a b c : List ℕ} {at m r : ℕ} {s t : List ℕ} → at ≤ length a → Wrote a at s m b → Wrote b m t r c → Wrote a at (s ++ t) r c
wrote_then {a} {b} {c} {at} {m} {r} {s} {t} h p q =
    record {
      ends = omega (arith, length-append s t, p.ends, q.ends);
      whole = q.whole ∙ (λ i. laid_at (p.ends i) t (p.whole i)) ∙ laid-laid at s t a h;
    }

-- All bytes of a text, copied to where they go.
pub wrote-copied : (out bytes : List ℕ) (at k : ℕ) (laid : List ℕ) → laid ≡ bytes → k ≡ length bytes
    → Wrote out at bytes (at + length bytes) (put_mid at k out laid)
unfolding laid_at in_front
wrote-copied out bytes at k laid same size = record { ends = refl; whole = rw (same, size) refl }

-- A text that was laid in front is what stands in front.
pub wrote-front : {out₀ out : List ℕ} {text : List ℕ} {n : ℕ} → Wrote out₀ 0 text n out → take n out ≡ text
unfolding in_front
wrote-front {out₀} {out} {text} {n} w =
    let size : length text ≡ n = omega (arith, w.ends) in
    ap (take n) (w.whole ∙ laid-front text out₀) ∙ take_at text (drop (length text) out₀) n size

-- LENGTHS
decimal-in-length : (k n : ℕ) → length (decimal_in k n) ≤ k
unfolding decimal_in
decimal-in-length zero n = omega arith
decimal-in-length (suc k) n = by_first (ltb n 10) (decimal-in-length k (n / 10))
  where
    by_first : (b : Bool) → length (decimal_in k (n / 10)) ≤ k
        → length {A = ℕ} (elim b [ true ↦ (48 + n) ∷ [] | false ↦ decimal_in k (n / 10) ++ ((48 + n % 10) ∷ []) ]) ≤ suc k
    by_first true h = omega arith
    by_first false h = omega (arith, length-append (decimal_in k (n / 10)) ((48 + n % 10) ∷ []))

pub decimal-length : (n : ℕ) → length (decimal n) ≤ 20
decimal-length n = unfold decimal in decimal-in-length 20 n

pub numbered-length : (n after : ℕ) → length (numbered n after) ≤ 21
numbered-length n after = unfold numbered in omega (arith, length-append (decimal n) (after ∷ []), decimal-length n)

-- DIGITS
glyph-digit : (n : ℕ) → n < 10 → hex_digit_ascii n ≡ 48 + n
glyph-digit n h = rw (lt-ltb n 10 h) refl

pub decimal-digits : (f k n : ℕ) → IsDigitCount 10 1 n k → k ≤ f → decimal_in f n ≡ last_digits 10 k n
unfolding decimal_in
decimal-digits f zero n few h = absurd (omega (arith, few.0))
decimal-digits zero (suc k) n few h = absurd (omega arith)
decimal-digits (suc f) (suc zero) n few h =
    let small : n < 10 = omega (arith, few.1) in
    let same : n % 10 ≡ n = omega arith in
    rw (lt-ltb n 10 small, decimal_in, same, glyph-digit n small) refl
decimal-digits (suc f) (suc (suc j)) n few h =
    let most : n < 10 * 10 ^ suc j = rw (pow_step 10 (suc j)) at few.1 in
    let less : suc (suc j) - 1 ≡ suc j = omega arith in
    let shorter : suc j - 1 ≡ j = omega arith in
    let power : 10 ^ suc j ≤ n = rw less at (few.2 (omega arith)) in
    let least : 10 * 10 ^ j ≤ n = rw (pow_step 10 j) at power in
    let large : 10 ≤ n = omega (arith, pow-le-pow_right {n = 10} (omega arith) {i = 0} {j = j} (omega arith)) in
    let rest = decimal-digits f (suc j) (n / 10) (omega arith, omega arith, λ i. rw shorter (omega arith)) (omega arith) in
    rw (le-ltb n 10 large, decimal_in, rest, glyph-digit (n % 10) (omega arith)) refl

-- A number of 64 bits has at most twenty digits.
pub few-digits : (n k : ℕ) → n < 2 ^ 64 → IsDigitCount 10 1 n k → k ≤ 20
few-digits n k h few = by-test (leb k 20) refl
  where
    by-test : (b : Bool) → leb k 20 ≡ b → k ≤ 20
    by-test true e = leb-true k 20 e
    by-test false e =
        let long = leb-false k 20 e in
        absurd (omega (arith, few.2 (omega arith), pow-le-pow_right {n = 10} (omega arith) {i = 20} {j = k - 1} (omega arith)))

pub wrote-decimal : {a b : List ℕ} {at r : ℕ} {ds : List ℕ} (n k : ℕ) → n < 2 ^ 64 → IsDigitCount 10 1 n k → ds ≡ last_digits 10 k n
    → Wrote a at ds r b
    → Wrote a at (decimal n) r b
unfolding decimal
wrote-decimal {ds = ds} n k h few e w =
    let same : ds ≡ decimal_in 20 n = e ∙ sym (decimal-digits 20 k n few (few-digits n k h few)) in rw same at w
