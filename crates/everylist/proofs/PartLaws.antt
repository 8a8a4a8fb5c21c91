-- The words of bytes in parts: how many there are, those behind whole words, and those of the front and of the rest.
use Prim.Native.Nat.{ℕ, zero, suc, ◌*◌, ◌/◌, ◌%◌}
use mathlib.Core.{Path.{◌≡◌, refl}, List.{List, [], ◌∷◌, ◌++◌}}
use native.Mathlib.Omega.{arith}
use lib.{ListN.{length, take, drop}, Seq.{take-nil, drop-nil}}
use Rattle.listing.specs.Lists.{words_in}

pub words_count : (bytes : List ℕ) → length (words_in bytes) ≡ length bytes / 4
unfolding words_in
words_count [] = refl
words_count (a ∷ []) = refl
words_count (a ∷ b ∷ []) = refl
words_count (a ∷ b ∷ c ∷ []) = refl
words_count (a ∷ b ∷ c ∷ d ∷ bytes) = omega (arith, words_count bytes)

pub words_append : (whole bytes : List ℕ) → length whole % 4 ≡ 0 → words_in (whole ++ bytes) ≡ words_in whole ++ words_in bytes
unfolding words_in
words_append [] bytes h = refl
words_append (a ∷ []) bytes h = absurd (omega arith)
words_append (a ∷ b ∷ []) bytes h = absurd (omega arith)
words_append (a ∷ b ∷ c ∷ []) bytes h = absurd (omega arith)
words_append (a ∷ b ∷ c ∷ d ∷ whole) bytes h = rw (words_append whole bytes (omega arith)) refl

-- One word more is four bytes more.
four-more : (n : ℕ) → 4 * suc n ≡ suc (suc (suc (suc (4 * n))))
four-more n = omega arith

pub words_take : (n : ℕ) (bytes : List ℕ) → words_in (take (4 * n) bytes) ≡ take n (words_in bytes)
unfolding words_in
words_take zero bytes = refl
words_take (suc n) [] = rw (take-nil {A = ℕ} (4 * suc n)) refl
words_take (suc n) (a ∷ []) = rw (four-more n) refl
words_take (suc n) (a ∷ b ∷ []) = rw (four-more n) refl
words_take (suc n) (a ∷ b ∷ c ∷ []) = rw (four-more n) refl
words_take (suc n) (a ∷ b ∷ c ∷ d ∷ bytes) = rw (four-more n, words_take n bytes) refl

pub words-drop : (n : ℕ) (bytes : List ℕ) → words_in (drop (4 * n) bytes) ≡ drop n (words_in bytes)
unfolding words_in
words-drop zero bytes = refl
words-drop (suc n) [] = rw (drop-nil {A = ℕ} (4 * suc n)) refl
words-drop (suc n) (a ∷ []) = rw (four-more n) refl
words-drop (suc n) (a ∷ b ∷ []) = rw (four-more n) refl
words-drop (suc n) (a ∷ b ∷ c ∷ []) = rw (four-more n) refl
words-drop (suc n) (a ∷ b ∷ c ∷ d ∷ bytes) = rw (four-more n, words-drop n bytes) refl
