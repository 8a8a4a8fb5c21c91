-- The operator's number in a word: by the word's bits, and by those bits where they stand. Assumes nothing.
use Prim.Native.Nat.{ℕ, ◌+◌, ◌*◌, ◌/◌, ◌%◌, ◌^◌, ◌≤◌, ◌<◌}
use mathlib.Core.{Path.{◌≡◌, refl, sym, ap, ◌∙◌}, Bool.{Bool, true, false}}
use native.Mathlib.Omega.{arith}
use lib.{Dec.{ltb}, Pow.{field, mod-mod-pow}}
use borrow.Author.Tests.{ltb-true, ltb-false}
use Rattle.molang.{specs.Words.{word, low_of, number_in, operator_bits}, proofs.Words.{low_word, bits-variant, bits-room}}
use Rattle.words.specs.Fields.{operator_of, variant_of, with_operator}

-- The operator of a word, by the word's bits.
pub number-bits : (w : ℕ) → operator_of w ≡ w / 4096 % 16 * 256 + w % 256
unfolding low_of operator_of number_in
number-bits w =
    let upper : low_of w / 2 ^ 12 % 2 ^ 4 ≡ w / 2 ^ 12 % 2 ^ 4 =
    ap (λ (m : ℕ). m % 2 ^ 4) (field w 17 12) ∙ mod-mod-pow (w / 2 ^ 12) 13 4
    in
    let lower : low_of w % 2 ^ 8 ≡ w % 2 ^ 8 = mod-mod-pow w 21 8 in
    rw (upper, lower)

low_bits : (n : ℕ) → n + 1 ≤ 2 ^ 8 → operator_bits n 0 ≡ n
low_bits n few = unfold operator_bits in omega arith

high_bits : (n : ℕ) → 2 ^ 8 ≤ n → 2 ^ 8 ≤ operator_bits n 0
high_bits n many = unfold operator_bits in omega arith

-- What is the same at all numbers from 256 on is the same of a number and of its bits where they stand.
pub same-by-bits : {A : Type 0} (f : ℕ → A) (none : A) → ((n : ℕ) → 2 ^ 8 ≤ n → f n ≡ none) → (n : ℕ) → f (operator_bits n 0) ≡ f n
same-by-bits f none past n = go (ltb n 256) refl
  where
    go : (b : Bool) → ltb n 256 ≡ b → f (operator_bits n 0) ≡ f n
    go true e = ap f (low_bits n (omega (arith, ltb-true n 256 e)))
    go false e =
        let many : 2 ^ 8 ≤ n = omega (arith, ltb-false n 256 e) in
        past (operator_bits n 0) (high_bits n many) ∙ sym (past n many)

-- A word of kind 1 under another operator.
pub renamed-word : (n v o : ℕ) → n < 2 ^ 12 → v < 2 ^ 4 → o ≤ 110 → with_operator (word 1 (operator_bits n v)) o ≡ word 1 (operator_bits o v)
unfolding with_operator variant_of
renamed-word n v o b c h =
    let room = bits-room n v b c in
    rw (low_word 1 (operator_bits n v) (omega arith), bits-variant n v c) (replaced (operator_bits n v) v o room h)
  where
    replaced : (bits v o : ℕ) → bits < 2 ^ 16 → o ≤ 110 → word 1 bits / 2 ^ 16 * 2 ^ 16 + v * 2 ^ 8 + o % 2 ^ 8 ≡ word 1 (operator_bits o v)
    replaced bits v o room h = unfold word in unfold operator_bits in omega arith
