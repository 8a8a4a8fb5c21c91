-- The steps of the program `everylist`: what it keeps of an input, the text at each position, and that of all positions one after another,
-- which is `printed` of the input (`steps-print`, `kept-prints`).
use Rattle.std.specs.Prelude.{ℕ, zero, suc, ◌+◌, ◌*◌, ◌/◌, ◌%◌, ◌≤◌, ◌≡◌, Bool, true, false, ◌&&◌, List, [], ◌∷◌, ◌++◌, eqb, leb, ltb, ℤ, length, take, drop, get_or, replicate, Result, Ok, Err, None, Some}
use Rattle.std.specs.declared.option.Option as code
use Rattle.std.proofs.Math.Option.{Option, none, some}
use Rattle.molang.specs.FirstFailure.{must, first_of}
use Rattle.molang.specs.Words.{Refusal, row}
use Rattle.molang.specs.Lines.{version_of}
use Rattle.words.specs.Fields.{operator_of}
use Rattle.text.specs.Text.{Wrote}
use Rattle.listing.specs.Lists.{words_in, list_text}
use Rattle.shortlists.specs.ShortLists.{up_to, count_refusal}
use Rattle.words.specs.Refusals.{reason_number}
use Rattle.words.specs.declared.refusals.Reason.{Reason}
pub use Rattle.everylist.specs.declared.kept.Kept.{Kept}
use Rattle.everylist.specs.EveryList.{all_numbers, head_text, short_text, short_texts, refusal_line}

-- What the program keeps of an input, by its parts.
abbrev pub kept : ℕ → List ℕ → Bool → Kept
kept bytes words fine = record { bytes = bytes; words = words; fine = fine }

-- WHAT IS KEPT of an input of these bytes: `main` reads the first 44 over zeros, and of those behind them looks at the words.
unfoldable pub kept_of : List ℕ → Kept
kept_of input = kept (length input) (words_in (take 44 (input ++ replicate 44 0))) (all_numbers (words_in (drop 44 input)))

-- The words that the input has among those that are kept.
unfoldable pub kept_words : Kept → List ℕ
kept_words k = take (k.bytes / 4) k.words

-- Where the input is turned back.
unfoldable pub kept_fault : Kept → Option Refusal
kept_fault k =
    first_of
    (must (eqb (k.bytes % 4) 0) (row 1 0)
    ∷ must (leb 8 k.bytes && (all_numbers (kept_words k) && k.fine)) (row 8 0)
    ∷ count_refusal (drop 2 (kept_words k)) (get_or k.words 1 0)
    ∷ [])

-- Where the input is turned back, by what `Kept::fault` answers.
abbrev pub fault_of : Result (Unit {0}) Reason → Option Refusal
fault_of (Ok _) = none
fault_of (Err reason) = some (row (reason_number reason) 0)

-- The lists that it asks for.
unfoldable pub kept_lists : Kept → List (List ℕ)
kept_lists k = up_to (drop 2 (kept_words k)) (get_or k.words 1 0)

-- The text at a position, by where the input is turned back: the refusal's line at the first one alone, or that of the list there.
unfoldable pub text_by : Option Refusal → Kept → ℕ → Option (List ℕ)
text_by (some r) k position = elim (eqb position 0) [ true ↦ some (refusal_line r) | false ↦ none ]
text_by none k position =
    elim (ltb position (length (kept_lists k))) [
      | true ↦ some (short_text (version_of (get_or k.words 0 0)) (get_or (kept_lists k) position []))
      | false ↦ none
    ]

-- THE STEP at a position: its text, or the end.
unfoldable pub text_at : Kept → ℕ → Option (List ℕ)
text_at k position = text_by (kept_fault k) k position

-- The texts of the positions from one on, up to the end, at most so many.
unfoldable pub texts_from : ℕ → Kept → ℕ → List ℕ
texts_from zero k position = []
texts_from (suc n) k position = elim (text_at k position) [ some text ↦ text ++ texts_from n k (position + 1) | none ↦ [] ]

-- THE WHOLE TEXT by what is kept: the refusal's line, or the texts of the lists.
unfoldable pub kept_text : Kept → List ℕ
kept_text k = elim (kept_fault k) [ some r ↦ refusal_line r | none ↦ short_texts (version_of (get_or k.words 0 0)) (kept_lists k) ]

-- What a step lays into the lent bytes: the text, of which it tells the length, or nothing.
abbrev pub Stepped : Option (List ℕ) → List ℕ → code.Option ℕ → List ℕ → Type 0
Stepped (some text) before (Some n) after = (n ≤ length after) × Wrote before 0 text n after
Stepped (some text) before None after = ⊥
Stepped none before (Some n) after = ⊥
Stepped none before None after = after ≡ before

-- The operators of the first tokens of a list's words.
unfoldable pub letters_in : ℕ → List ℕ → List ℕ
letters_in zero list = []
letters_in (suc i) list = letters_in i list ++ (operator_of (get_or list (5 * i) 0) ∷ [])

-- The text of a list by its words, the first of which are so many tokens.
unfoldable pub words_text : ℤ → ℕ → List ℕ → List ℕ
words_text version tokens list = head_text (letters_in tokens list) ++ list_text (take (5 * tokens) list) version
