-- The bytes of words, laid one behind the other. Assumes nothing.
use Prim.Native.Nat.{ℕ, ◌+◌, ◌*◌, ◌≤◌, ◌<◌}
use mathlib.Core.{Path.{◌≡◌, refl, ap, sym, ◌∙◌}, List.{List, [], ◌∷◌, ◌++◌, append_assoc}}
use native.Mathlib.{Numerals.{add-one}, Omega.{arith}}
use lib.{ListN.{length, take, drop, get_or, length-append}, Seq.{take-suc, take_all, take_at, length-take-le}}
use Rattle.molang.specs.Parse.{in_front}
use Rattle.words.specs.Records.{laid_at}
use Rattle.text.{specs.Text.{Wrote}, proofs.TextLaws.{wrote_then}}
use Rattle.liftlists.specs.LiftedFile.{bytes_of}

pub bytes-append : (a b : List ℕ) → bytes_of (a ++ b) ≡ bytes_of a ++ bytes_of b
unfolding bytes_of
bytes-append [] b = refl
bytes-append (w ∷ a) b = rw (bytes-append a b) refl

pub bytes-length : (words : List ℕ) → length (bytes_of words) ≡ 4 * length words
unfolding bytes_of
bytes-length [] = refl
bytes-length (w ∷ words) = omega (arith, bytes-length words)

-- One word more of a list.
pub word_more : {a b c : List ℕ} {at m r : ℕ} (words : List ℕ) (i : ℕ) → i < length words → at ≤ length a
    → Wrote a at (bytes_of (take i words)) m b
    → Wrote b m (bytes_of (get_or words i 0 ∷ [])) r c
    → Wrote a at (bytes_of (take (i + 1) words)) r c
word_more {a} {b} {c} {at} {m} {r} words i h room p q =
    let one : take (i + 1) words ≡ take i words ++ (get_or words i 0 ∷ []) = rw (add-one i) (take-suc words i 0 h) in
    rw (one, bytes-append (take i words) (get_or words i 0 ∷ [])) (wrote_then room p q)

pub words-all : {a b : List ℕ} {at r : ℕ} (words : List ℕ) (i : ℕ) → length words ≤ i → Wrote a at (bytes_of (take i words)) r b
    → Wrote a at (bytes_of words) r b
words-all words i h p = rw (take_all i words h) at p

-- A text that was laid stands behind what stood before it.
pub wrote-taken : {a b : List ℕ} {at r : ℕ} {text : List ℕ} → at ≤ length a → Wrote a at text r b → take r b ≡ take at a ++ text
unfolding laid_at in_front
wrote-taken {a} {b} {at} {r} {text} h w =
    let size : length (take at a ++ text) ≡ r =
    length-append (take at a) text ∙ omega (arith, length-take-le at a h, w.ends)
    in
    ap (take r) (w.whole ∙ sym (append_assoc (take at a) text (drop (length text) (drop at a))))
    ∙ take_at (take at a ++ text) (drop (length text) (drop at a)) r size
