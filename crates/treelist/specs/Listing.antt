-- The program `treelist` (document 01, end of 'Lists and their trees'): what it prints for an input, by the count of its bytes and its
-- front.
use Rattle.std.specs.Prelude.{ℕ, ◌-◌, ◌/◌, ◌%◌, ◌^◌, ◌≤◌, ◌<◌, ◌≡◌, ◌&&◌, List, [], ◌∷◌, eqb, leb, ltb, take, drop, get_or, replicate, Result, Ok, Err}
use Rattle.std.proofs.Math.Option.{Option, none, some}
use Rattle.molang.specs.FirstFailure.{must, first_of}
use Rattle.molang.specs.Words.{Refusal, row, operator_field, words_refusal}
use Rattle.molang.specs.Read.{Answer}
use Rattle.molang.specs.Parse.{told, tree_in, messages_in}
use Rattle.molang.specs.Lines.{version_of}
use Rattle.words.specs.Refusals.{refusal_row}
use Rattle.words.specs.declared.refusals.Refusal as code
use Rattle.own.specs.Own.{reading_of}
use Rattle.listing.specs.Lists.{words_in}
use Rattle.listing.specs.Rows.{answer_text}

-- How many words an input of so many bytes has after the first.
unfoldable pub list_length : ℕ → ℕ
list_length bytes = bytes / 4 - 1

-- Where the program turns an input back by its count of bytes and its first word, in this order. A word of kind 0 with no bit above the
-- lowest sixteen is below 2 ^ 16.
unfoldable pub turned_back : ℕ → ℕ → Option Refusal
turned_back bytes first =
    first_of
    (must (eqb (bytes % 4) 0) (row 1 0)
    ∷ must (leb 4 bytes && ltb first (2 ^ 16)) (row 8 0)
    ∷ must (eqb (list_length bytes % 5) 0) (row 1 0)
    ∷ must (leb (list_length bytes) 640) (row 2 0)
    ∷ [])

-- Where an input is turned back, by what `asked` answers.
abbrev pub refusal_of : Result ℕ code.Refusal → Option Refusal
refusal_of (Ok n) = none
refusal_of (Err r) = some (refusal_row r)

-- The list of an input whose front is these words.
unfoldable pub list_of : ℕ → List ℕ → List ℕ
list_of bytes words = take (list_length bytes) (drop 1 words)

-- Where an input is turned back: by the program, else at the first of its list's words that the entry turns back.
unfoldable pub fault_of : ℕ → List ℕ → Option Refusal
fault_of bytes words = first_of (turned_back bytes (get_or words 0 0) ∷ words_refusal 0 operator_field 0 (list_of bytes words) ∷ [])

-- What is read of one that is not turned back.
unfoldable pub answer_of : ℕ → List ℕ → Answer
answer_of bytes words = reading_of (list_of bytes words) (version_of (get_or words 0 0))

-- WHAT IS PRINTED for an input of so many bytes, the first 2,564 of which are given.
unfoldable pub printed : ℕ → List ℕ → List ℕ
printed bytes front =
    let fault = fault_of bytes (words_in front) in
    let answer = answer_of bytes (words_in front) in
    answer_text (told fault answer) (tree_in fault answer (replicate 2688 0)) (messages_in fault answer (replicate 16 0))

-- What a list that is asked for keeps to.
abbrev pub Counted : Result ℕ code.Refusal → ℕ → ℕ → Type 0
Counted (Ok n) bytes first = (n ≡ list_length bytes) × (n ≤ 640) × (n % 5 ≡ 0) × (first < 2 ^ 16)
Counted (Err r) bytes first = Unit {0}
