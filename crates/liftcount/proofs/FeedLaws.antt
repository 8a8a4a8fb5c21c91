-- Bytes of a chunk, one by one and four at a time. Assumes nothing.
use Prim.Native.Nat.{ℕ, ◌+◌, ◌*◌, ◌-◌, ◌%◌, ◌^◌, ◌≤◌, ◌<◌}
use mathlib.Core.{Path.{◌≡◌, refl, ap, sym, ◌∙◌}, List.{List, [], ◌∷◌, ◌++◌}}
use native.Mathlib.{Numerals.{add-one}, Omega.{arith}}
use lib.{ListN.{length, take, drop, get_or}, Seq.{drop-cons, drop-length, take-add, take-length}}
use Rattle.liftcount.specs.{Running.{State, word_taken, byte_taken, fed}, Steps.{after_word}}
use Rattle.liftcount.proofs.ByteLaws.{fed-four, fed-append}

module _ (s : State) (bytes : List ℕ) (at : ℕ) where
  -- A BYTE more, and none
  pub byte-on : at < length bytes → fed s (drop at bytes) ≡ fed (byte_taken s (get_or bytes at 0)) (drop (at + 1) bytes)
  byte-on h = unfold fed in rw (add-one at, drop-cons bytes at 0 h) refl

  pub fed-end : length bytes ≡ at → fed s (drop at bytes) ≡ s
  fed-end h = unfold fed in rw (ap (λ (n : ℕ). drop n bytes) (sym h) ∙ drop-length bytes) refl

-- A WORD more, of four bytes, and none.
pub word_on : (s : State) (x later : List ℕ) → s.held ≡ 0 → s.partial < 2 ^ 32 → length x ≡ 4
    → fed s (x ++ later)
    ≡ fed
    (after_word
    (word_taken s.progress.stage s.progress.counts s.progress.list
    (get_or x 0 0 + 2 ^ 8 * get_or x 1 0 + 2 ^ 16 * get_or x 2 0 + 2 ^ 24 * get_or x 3 0)))
    later
word_on s [] later none fits h = absurd (omega (arith, h))
word_on s (a ∷ []) later none fits h = absurd (omega (arith, h))
word_on s (a ∷ b ∷ []) later none fits h = absurd (omega (arith, h))
word_on s (a ∷ b ∷ c ∷ []) later none fits h = absurd (omega (arith, h))
word_on s (a ∷ b ∷ c ∷ d ∷ []) later none fits h = fed-four s a b c d later none fits
word_on s (a ∷ b ∷ c ∷ d ∷ e ∷ x) later none fits h = absurd (omega (arith, h))

pub none-left : (s : State) (rest : List ℕ) → length rest % 4 ≡ 0 → length rest < 4 → fed s rest ≡ s
unfolding fed
none-left s [] whole few = refl
none-left s (a ∷ []) whole few = absurd (omega (arith, whole))
none-left s (a ∷ b ∷ []) whole few = absurd (omega (arith, whole))
none-left s (a ∷ b ∷ c ∷ []) whole few = absurd (omega (arith, whole))
none-left s (a ∷ b ∷ c ∷ d ∷ rest) whole few = absurd (omega (arith, few))

-- A CHUNK in two parts.
pub chunk-parts : (s : State) (chunk : List ℕ) (k : ℕ) → k ≤ length chunk
    → fed (fed s (take k chunk)) (take (length chunk - k) (drop k chunk)) ≡ fed s chunk
chunk-parts s chunk k h =
    let all : k + (length chunk - k) ≡ length chunk = omega arith in
    sym (fed-append s (take k chunk) (take (length chunk - k) (drop k chunk)))
    ∙ ap (fed s)
    (sym (take-add k (length chunk - k) chunk) ∙ (ap (λ (n : ℕ). take n chunk) all ∙ take-length chunk))
