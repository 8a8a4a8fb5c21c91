-- The words of bytes, one by one; and bytes that are laid over zeros.
use Prim.Native.Nat.{ℕ, zero, suc, ◌+◌, ◌*◌, ◌^◌, ◌≤◌, ◌<◌}
use mathlib.Core.{Path.{◌≡◌, refl, ap, sym, ◌∙◌}, List.{List, [], ◌∷◌, ◌++◌}}
use native.Mathlib.{Numerals.{add-one}, Omega.{arith}}
use lib.{Dec.{leb}, ListN.{length, take, drop, set, get_or, replicate, length-take}}
use lib.Seq.{take-suc, take-suc-set, take_all, take_at, take-append-le, length-take-le}
use borrow.Author.Tests.{leb-true, leb-false}
use Rattle.molang.{specs.Parse.{in_front}, proofs.Booleans.{either}}
use Rattle.words.{specs.Records.{laid_at}, proofs.RecordLaws.{laid-front}}
use Rattle.listing.specs.Lists.{words_in}

-- The word of the four bytes from an index on.
abbrev pub word_at : List ℕ → ℕ → ℕ
word_at bytes at = get_or bytes at 0 + 2 ^ 8 * get_or bytes (at + 1) 0 + 2 ^ 16 * get_or bytes (at + 2) 0 + 2 ^ 24 * get_or bytes (at + 3) 0

pub words-length : (n : ℕ) (bytes : List ℕ) → length bytes ≡ 4 * n → length (words_in bytes) ≡ n
unfolding words_in
words-length zero [] h = refl
words-length zero (a ∷ bytes) h = absurd (omega arith)
words-length (suc n) [] h = absurd (omega arith)
words-length (suc n) (a ∷ []) h = absurd (omega arith)
words-length (suc n) (a ∷ b ∷ []) h = absurd (omega arith)
words-length (suc n) (a ∷ b ∷ c ∷ []) h = absurd (omega arith)
words-length (suc n) (a ∷ b ∷ c ∷ d ∷ bytes) h = ap suc (words-length n bytes (omega arith))

pub words-at : (i : ℕ) (bytes : List ℕ) → 4 * i + 4 ≤ length bytes → get_or (words_in bytes) i 0 ≡ word_at bytes (4 * i)
unfolding words_in
words-at i [] h = absurd (omega arith)
words-at i (a ∷ []) h = absurd (omega arith)
words-at i (a ∷ b ∷ []) h = absurd (omega arith)
words-at i (a ∷ b ∷ c ∷ []) h = absurd (omega arith)
words-at zero (a ∷ b ∷ c ∷ d ∷ bytes) h = refl
words-at (suc i) (a ∷ b ∷ c ∷ d ∷ bytes) h =
    let on : 4 * suc i ≡ suc (suc (suc (suc (4 * i)))) = omega arith in
    let second : 4 * suc i + 1 ≡ suc (suc (suc (suc (4 * i + 1)))) = omega arith in
    let third : 4 * suc i + 2 ≡ suc (suc (suc (suc (4 * i + 2)))) = omega arith in
    let fourth : 4 * suc i + 3 ≡ suc (suc (suc (suc (4 * i + 3)))) = omega arith in
    rw (second, third, fourth, on) (words-at i bytes (omega arith))

-- One word more, and all.
module _ (bytes words : List ℕ) (i : ℕ) (size : length bytes ≡ 4 * length words) (e : take i words ≡ take i (words_in bytes)) where
  pub words-on : (w : ℕ) → i < length words → w ≡ word_at bytes (4 * i) → take (i + 1) (set words i w) ≡ take (i + 1) (words_in bytes)
  words-on w h at =
      rw add-one
      (take-suc-set words i w h
      ∙ ap (λ (l : List ℕ). l ++ (w ∷ [])) e
      ∙ ap (λ (v : ℕ). take i (words_in bytes) ++ (v ∷ [])) (at ∙ sym (words-at i bytes (omega arith)))
      ∙ sym (take-suc (words_in bytes) i 0 (omega (arith, words-length (length words) bytes size))))

  pub words-all : length words ≤ i → words ≡ words_in bytes
  words-all h =
      sym (take_all i words h) ∙ e ∙ take_all i (words_in bytes) (omega (arith, words-length (length words) bytes size))

-- BYTES OVER ZEROS: bytes laid in front of zeros are the first of those bytes and zeros behind them.
zeros : (n m : ℕ) → n ≤ m → replicate {A = ℕ} n 0 ≡ take n (replicate m 0)
zeros zero m h = refl
zeros (suc n) zero h = absurd (omega arith)
zeros (suc n) (suc m) h = ap {B = List ℕ} (λ l. 0 ∷ l) (zeros n m (omega arith))

over : (n m : ℕ) (bytes : List ℕ) → length bytes ≤ n → n ≤ m
    → bytes ++ drop (length bytes) (replicate n 0) ≡ take n (bytes ++ replicate m 0)
over n m [] h few = zeros n m few
over zero m (b ∷ bytes) h few = absurd (omega arith)
over (suc n) m (b ∷ bytes) h few = ap (λ (l : List ℕ). b ∷ l) (over n m bytes (omega arith) (omega arith))

over_zeros : (n : ℕ) (bytes : List ℕ) → length bytes ≤ n → laid_at 0 bytes (replicate n 0) ≡ take n (bytes ++ replicate n 0)
over_zeros n bytes h = unfold in_front in laid-front bytes (replicate n 0) ∙ over n n bytes h (omega arith)

-- What stands behind the first bytes of an input does not matter to those.
front-alone : (n : ℕ) (input zs : List ℕ) → take n (take n input ++ zs) ≡ take n (input ++ zs)
front-alone n input zs =
    either (leb (length input) n)
    (λ e. ap (λ (l : List ℕ). take n (l ++ zs)) (take_all n input (leb-true (length input) n e)))
    (λ e.
    let long = leb-false (length input) n e in
    take_at (take n input) zs n (length-take-le n input (omega arith)) ∙ sym (take-append-le n input zs (omega arith)))

-- THE FRONT OF AN INPUT, laid over zeros.
pub front-over-zeros : (n : ℕ) (input front : List ℕ) → take n input ≡ front
    → laid_at 0 front (replicate n 0) ≡ take n (input ++ replicate n 0)
front-over-zeros n input front e =
    over_zeros n front (omega (arith, length-take n input, ap (λ (l : List ℕ). length l) e))
    ∙ ap (λ (l : List ℕ). take n (l ++ replicate n 0)) (sym e)
    ∙ front-alone n input (replicate n 0)
