-- What card 7 leaves as it was: a word of kind 1 whose bits 12-15 are 0 has its operator in bits 0-7 and is answered by the tests that
-- stood before hosts had numbers, its token is the one that it was, and a token whose number is below 256 has the words that it had.
use Prim.Native.Nat.{ℕ, ◌+◌, ◌*◌, ◌/◌, ◌%◌, ◌^◌, ◌<◌}
use mathlib.Core.{Path.{◌≡◌, refl}, Bool.{or-false}, List.{[], ◌∷◌}}
use native.Mathlib.Omega.{arith}
use lib.Dec.{leb, ltb}
use borrow.Author.Tests.{ltb-true, ltb-false, lt-ltb, le-ltb, lt-leb}
use Rattle.molang.specs.{Operator.{between, is_host, is_operator}, Forest.{Token}, FirstFailure.{must, first_of}}
use Rattle.molang.specs.Words.{word, low_of, operator_bits, number_in, token_words, token_of, operator_field, low_fault}
use Rattle.molang.proofs.Booleans.{either}

pub old-number : (low : ℕ) → low / 2 ^ 12 % 2 ^ 4 ≡ 0 → number_in low ≡ low % 2 ^ 8
old-number low h = unfold number_in in rw h (omega arith)

-- Below 256 stand the operators of document 01 alone.
old-operator : (n : ℕ) → n < 2 ^ 8 → is_operator n ≡ leb n 110
old-operator n b = unfold is_operator is_host between in rw (lt-leb 256 n b) (or-false (leb n 110))

old-room : (low : ℕ) → low / 2 ^ 12 % 2 ^ 4 ≡ 0 → ltb low (2 ^ 16) ≡ ltb low (2 ^ 12)
old-room low h =
    either (ltb low (2 ^ 12)) (λ e. rw (e, lt-ltb low (2 ^ 16) (omega (arith, ltb-true low (2 ^ 12) e))) refl)
    (λ e. rw (e, le-ltb low (2 ^ 16) (omega (arith, ltb-false low (2 ^ 12) e, h))) refl)

-- The answer to a word of kind 1, by its low bits.
pub old-answer : (v low : ℕ) → low / 2 ^ 12 % 2 ^ 4 ≡ 0
    → low_fault operator_field v low
    ≡ first_of (must (leb (low % 2 ^ 8) 110) 9 ∷ must (leb (low / 2 ^ 8 % 2 ^ 4) 12) 10 ∷ must (ltb low (2 ^ 12)) 11 ∷ [])
old-answer v low h = unfold low_fault in rw (old-number low h, old-operator (low % 2 ^ 8) (omega arith), old-room low h) refl

-- OLD WORDS: the token that they are.
pub old-words : (a b c d e : ℕ) → low_of a / 2 ^ 12 % 2 ^ 4 ≡ 0
    → token_of a b c d e
    ≡ record {
      op = low_of a % 2 ^ 8;
      variant = low_of a / 2 ^ 8 % 2 ^ 4;
      value = low_of d % 2 ^ 16 * 2 ^ 16 + low_of e % 2 ^ 16;
      start = low_of b;
      end = low_of c;
      close = low_of c;
    }
old-words a b c d e h = unfold token_of in rw (old-number (low_of a) h) refl

-- The other way round.
pub old-bits : (n v : ℕ) → n < 2 ^ 8 → operator_bits n v ≡ v * 2 ^ 8 + n
old-bits n v b = unfold operator_bits in omega arith

pub old-token : (k : Token) → k.op < 2 ^ 8
    → token_words k
    ≡ word 1 (k.variant * 2 ^ 8 + k.op)
    ∷ word 2 k.start
    ∷ word 3 k.end
    ∷ word 4 (k.value / 2 ^ 16)
    ∷ word 5 (k.value % 2 ^ 16)
    ∷ []
old-token k b = unfold token_words in rw (old-bits k.op k.variant b) refl
