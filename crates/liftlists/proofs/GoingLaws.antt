-- The run's places, one behind the other, and what is handed over at each. Assumes nothing.
use Prim.Native.Nat.{ℕ, ◌+◌, ◌*◌, ◌%◌, ◌^◌, ◌≤◌, ◌<◌}
use mathlib.Core.{Path.{◌≡◌, refl, ap, sym, ◌∙◌}, List.{List, [], ◌∷◌, ◌++◌, append_assoc, append-nil}}
use native.Mathlib.Omega.{arith}
use lib.ListN.{length, take, get_or, length-take}
use borrow.Author.Tests.{lt-ltb, le-ltb}
use Rattle.listing.specs.Lists.{words_in}
use Rattle.text.{specs.Text.{Wrote}, proofs.TextLaws.{wrote_then}}
use Rattle.liftlists.specs.declared.step.Step.{Step}
use Rattle.liftlists.specs.LiftedFile.{bytes_of, bytes_behind, is_version_word, lifted_words, refused_line, lifted_behind, lifted_file}
use Rattle.liftlists.specs.{Steps.{held_in, Took}, Going.{FileGoes, file_from, yet, PlaceReached, IsLastPiece}}
use Rattle.liftlists.proofs.PutLaws.{bytes-append, wrote-taken}

-- FROM PLACE TO PLACE
pub goes_then : {here there later : List ℕ → List ℕ} {a b : List ℕ} → FileGoes here a there → FileGoes there b later → FileGoes here (a ++ b) later
goes_then {here} {there} {later} {a} {b} p q =
    record {
      gave = p.gave ++ q.gave;
      on = λ rest.
          ap here (append_assoc a b rest)
          ∙ p.on (b ++ rest)
          ∙ ap (λ (l : List ℕ). p.gave ++ l) (q.on rest)
          ∙ sym (append_assoc p.gave q.gave (later rest));
    }

pub reached_then : {here there : List ℕ → List ℕ} {a : List ℕ} → PlaceReached here → FileGoes here a there → PlaceReached there
reached_then {a = a} r g = record { came = r.came ++ a; goes = goes_then r.goes g }

-- A WORD, by its four bytes.
pub took-goes : {to : ℕ} {held : List ℕ} {a b c d most : ℕ} {out : List ℕ} {at : ℕ} {step : Step} {list out' : List ℕ} → at ≤ length out
    → Took to held (a + 2 ^ 8 * b + 2 ^ 16 * c + 2 ^ 24 * d) most out at step list out'
    → FileGoes (yet to held out at) (a ∷ b ∷ c ∷ d ∷ []) (yet to (held_in step.stage list) out' step.at)
unfolding file_from words_in bytes_behind
took-goes {to} {held} {a} {b} {c} {d} {most} {out} {at} {step} {list} {out'} room t =
    record {
      gave = [];
      on = λ rest.
          let later = lifted_words to (held_in step.stage list ++ words_in rest) in
          rw (t.on (words_in rest), bytes-append t.gave later, wrote-taken room t.wrote)
          (ap (λ (l : List ℕ). take at out ++ l) (append_assoc (bytes_of t.gave) (bytes_of later) (bytes_behind rest))
          ∙ sym (append_assoc (take at out) (bytes_of t.gave) (bytes_of later ++ bytes_behind rest)));
    }

-- Four bytes, one by one.
pub four-first : (first : List ℕ) → length first ≡ 4 → first ≡ get_or first 0 0 ∷ get_or first 1 0 ∷ get_or first 2 0 ∷ get_or first 3 0 ∷ []
four-first [] h = absurd (omega arith)
four-first (a ∷ []) h = absurd (omega arith)
four-first (a ∷ b ∷ []) h = absurd (omega arith)
four-first (a ∷ b ∷ c ∷ []) h = absurd (omega arith)
four-first (a ∷ b ∷ c ∷ d ∷ []) h = refl
four-first (a ∷ b ∷ c ∷ d ∷ e ∷ more) h = absurd (omega arith)

-- A WORD MORE of a chunk.
module _ {here : List ℕ → List ℕ} {most : ℕ} {step : Step} {list out' : List ℕ} (to : ℕ) (held out : List ℕ) (at start : ℕ)
    (came word : List ℕ) where
  pub word-goes : length word ≡ 4 → start ≤ length out → FileGoes here came (yet to held out at)
      → FileGoes (yet to held out at) [] (yet to held out start)
      → Took to held
      (get_or word 0 0 + 2 ^ 8 * get_or word 1 0 + 2 ^ 16 * get_or word 2 0 + 2 ^ 24 * get_or word 3 0) most out start step list out'
      → FileGoes here (came ++ word) (yet to (held_in step.stage list) out' step.at)
  word-goes h room before spilled took =
      rw (four-first word h) (goes_then before (goes_then spilled (took-goes room took)))

-- Whole words of fewer bytes than one has are none.
pub none-left : (left : List ℕ) → length left % 4 ≡ 0 → length left < 4 → left ≡ []
none-left [] whole few = refl
none-left (a ∷ left) whole few = absurd (omega arith)

-- THE END OF THE INPUT: at most three bytes are no word.
short-words : (tail : List ℕ) → length tail ≤ 3 → (words_in tail ≡ []) × (bytes_behind tail ≡ tail)
unfolding words_in bytes_behind
short-words [] h = (refl, refl)
short-words (a ∷ []) h = (refl, refl)
short-words (a ∷ b ∷ []) h = (refl, refl)
short-words (a ∷ b ∷ c ∷ []) h = (refl, refl)
short-words (a ∷ b ∷ c ∷ d ∷ bytes) h = absurd (omega arith)

pub ends_last : {between last tail : List ℕ} {middle end : ℕ} (to : ℕ) (held out : List ℕ) (at : ℕ) → PlaceReached (yet to held out at) → length tail ≤ 3
    → at ≤ length out
    → Wrote out at (bytes_of (lifted_words to held)) middle between
    → Wrote between middle tail end last
    → IsLastPiece (take end last)
unfolding file_from
ends_last {tail = tail} {end = end} to held out at r short room first second =
    let few = short-words tail short in
    record {
      input = r.came ++ tail;
      before = r.goes.gave;
      is =
          r.goes.on tail
          ∙ rw (few.0, few.1, append-nil held, wrote-taken room (wrote_then room first second)) refl;
    }

-- THE BEGINNING: a version word, and what is no version word.
pub starts : (a b c d : ℕ) → a + 2 ^ 8 * b + 2 ^ 16 * c + 2 ^ 24 * d < 65536
    → FileGoes lifted_file (a ∷ b ∷ c ∷ d ∷ []) (file_from (a + 2 ^ 8 * b + 2 ^ 16 * c + 2 ^ 24 * d) [])
unfolding lifted_file lifted_behind is_version_word words_in bytes_behind file_from
starts a b c d h =
    record { gave = []; on = λ rest. rw (lt-ltb (a + 2 ^ 8 * b + 2 ^ 16 * c + 2 ^ 24 * d) 65536 h, lifted_behind) refl }

pub refused-short : (first : List ℕ) → length first < 4 → lifted_file first ≡ refused_line
unfolding lifted_file lifted_behind words_in
refused-short [] h = refl
refused-short (a ∷ []) h = refl
refused-short (a ∷ b ∷ []) h = refl
refused-short (a ∷ b ∷ c ∷ []) h = refl
refused-short (a ∷ b ∷ c ∷ d ∷ bytes) h = absurd (omega arith)

-- Whatever follows.
pub refused-first : (a b c d : ℕ) (v : ℕ) → v ≡ a + 2 ^ 8 * b + 2 ^ 16 * c + 2 ^ 24 * d → 65536 ≤ v → (rest : List ℕ)
    → lifted_file (a ∷ b ∷ c ∷ d ∷ rest) ≡ refused_line
unfolding lifted_file lifted_behind is_version_word words_in
refused-first a b c d v e h rest = rw (← e, le-ltb v 65536 h, lifted_behind) refl

-- No more than three bytes are taken.
pub few-taken : (n : ℕ) (l : List ℕ) → n ≤ 3 → length (take n l) ≤ 3
few-taken n l h = omega (arith, length-take n l)
