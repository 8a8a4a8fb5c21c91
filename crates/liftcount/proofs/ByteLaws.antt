-- The run over bytes: four of them are a word, and chunks fed one after the other are the input fed at once.
use Prim.Native.Nat.{ℕ, ◌+◌, ◌*◌, ◌/◌, ◌^◌, ◌<◌}
use mathlib.Core.{Path.{◌≡◌, refl, ap, sym, subst, ◌∙◌}, List.{List, [], ◌∷◌, ◌++◌, flatten, foldl}}
use native.Mathlib.Omega.{arith}
use Rattle.liftcount.specs.{Running.{Progress, word_taken, State, byte_taken, fed}, Steps.{after_word}}

-- The progress with a word more.
abbrev pub with_word : Progress → ℕ → Progress
with_word p w = word_taken p.stage p.counts p.list w

-- Four bytes that entered a word at its top, one after the other.
entered : (partial a b c d : ℕ) → partial < 2 ^ 32
    → (((partial / 2 ^ 8 + a * 2 ^ 24) / 2 ^ 8 + b * 2 ^ 24) / 2 ^ 8 + c * 2 ^ 24) / 2 ^ 8 + d * 2 ^ 24
    ≡ a + 2 ^ 8 * b + 2 ^ 16 * c + 2 ^ 24 * d
entered partial a b c d low = omega arith

-- FOUR BYTES, where none of a word had come, are their word taken, the lowest byte first; no byte is held after them.
pub four_bytes : (s : State) (a b c d : ℕ) → s.held ≡ 0 → s.partial < 2 ^ 32
    → byte_taken (byte_taken (byte_taken (byte_taken s a) b) c) d ≡ after_word (with_word s.progress (a + 2 ^ 8 * b + 2 ^ 16 * c + 2 ^ 24 * d))
unfolding byte_taken
four_bytes s a b c d none-held low =
    subst
    (λ (n : ℕ). byte_taken (byte_taken (byte_taken (byte_taken (record { held = n; partial = s.partial; progress = s.progress }) a) b) c) d
    ≡ after_word (with_word s.progress (a + 2 ^ 8 * b + 2 ^ 16 * c + 2 ^ 24 * d))) (sym none-held)
    (ap (λ (w : ℕ). after_word (with_word s.progress w)) (entered s.partial a b c d low))

-- A chunk that begins with them.
pub fed-four : (s : State) (a b c d : ℕ) (bytes : List ℕ) → s.held ≡ 0 → s.partial < 2 ^ 32
    → fed s (a ∷ b ∷ c ∷ d ∷ bytes) ≡ fed (after_word (with_word s.progress (a + 2 ^ 8 * b + 2 ^ 16 * c + 2 ^ 24 * d))) bytes
fed-four s a b c d bytes none-held low = unfold fed in ap (λ (t : State). fed t bytes) (four_bytes s a b c d none-held low)

-- TWO CHUNKS fed one after the other are their bytes fed at once.
pub fed-append : (s : State) (a b : List ℕ) → fed s (a ++ b) ≡ fed (fed s a) b
unfolding fed
fed-append s [] b = refl
fed-append s (x ∷ a) b = fed-append (byte_taken s x) a b

-- CHUNKS fed one after the other, however many and however long, are their bytes fed at once.
pub fed-chunks : (s : State) (chunks : List (List ℕ)) → foldl fed s chunks ≡ fed s (flatten chunks)
unfolding fed flatten
fed-chunks s [] = refl
fed-chunks s (c ∷ chunks) = fed-chunks (fed s c) chunks ∙ sym (fed-append s c (flatten chunks))
