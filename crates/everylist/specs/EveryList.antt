-- The program `everylist` (document 02, card 9): WHAT IS PRINTED for an input, over every list of its alphabet up to its length.
use Rattle.std.specs.Prelude.{ℕ, ◌%◌, ◌^◌, Bool, true, ◌&&◌, List, [], ◌∷◌, ◌++◌, eqb, leb, ltb, ℤ, length, drop, get_or}
use Rattle.std.proofs.Math.Option.{Option, none, some}
use Rattle.molang.specs.FirstFailure.{must, first_of}
use Rattle.molang.specs.Words.{Refusal, row, list_words}
use Rattle.molang.specs.Parse.{refused}
use Rattle.molang.specs.Lines.{tokens_from, version_of}
use Rattle.text.specs.Text.{ascii, decimal, space, line_end}
use Rattle.listing.specs.Rows.{answer_text}
use Rattle.listing.specs.Lists.{words_in, list_text}
use Rattle.shortlists.specs.ShortLists.{up_to, count_refusal}

-- A word of kind 0 with no bit above the lowest sixteen is below 2 ^ 16.
unfoldable pub is_number : ℕ → Bool
is_number w = ltb w (2 ^ 16)

-- Each word is one.
unfoldable pub all_numbers : List ℕ → Bool
all_numbers [] = true
all_numbers (w ∷ words) = is_number w && all_numbers words

-- Where an input of these bytes is turned back: bytes that are no whole words; a version or length word that is missing, or a faulty word
-- among all; then answers 19 and 20 to the alphabet, which is the words after these two, and to the length.
unfoldable pub input_fault : List ℕ → Option Refusal
input_fault bytes =
    let words = words_in bytes in
    first_of
    (must (eqb (length bytes % 4) 0) (row 1 0)
    ∷ must (leb 2 (length words) && all_numbers words) (row 8 0)
    ∷ count_refusal (drop 2 words) (get_or words 1 0)
    ∷ [])

-- A space before each number.
unfoldable pub spaced_out : List ℕ → List ℕ
spaced_out [] = []
spaced_out (n ∷ ns) = (space ∷ decimal n) ++ spaced_out ns

-- The line `list` with the operators of a list.
unfoldable pub head_text : List ℕ → List ℕ
head_text letters = (ascii "list" ++ spaced_out letters) ++ (line_end ∷ [])

-- What is printed for a list: its line, and what treelist answers to it at the version.
unfoldable pub short_text : ℤ → List ℕ → List ℕ
short_text version letters = head_text letters ++ list_text (list_words (tokens_from 0 letters)) version

-- What is printed for lists, one after another.
unfoldable pub short_texts : ℤ → List (List ℕ) → List ℕ
short_texts version [] = []
short_texts version (l ∷ ls) = short_text version l ++ short_texts version ls

-- A refusal's line.
unfoldable pub refusal_line : Refusal → List ℕ
refusal_line r = answer_text (refused r.number r.place) [] []

-- WHAT IS PRINTED for an input of these bytes.
unfoldable pub printed : List ℕ → List ℕ
printed bytes =
    let words = words_in bytes in
    elim (input_fault bytes) [
      | some r ↦ refusal_line r
      | none ↦ short_texts (version_of (get_or words 0 0)) (up_to (drop 2 words) (get_or words 1 0))
    ]
