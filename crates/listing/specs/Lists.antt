-- A list as the programs read and print one (document 01, end of 'Lists and their trees'): the words of bytes, when a list is turned back,
-- and what is printed of it.
use Rattle.std.specs.Prelude.{ℕ, ◌+◌, ◌*◌, ◌%◌, ◌^◌, List, [], ◌∷◌, eqb, leb, ℤ, length}
use Rattle.std.proofs.Math.Option.{Option}
use Rattle.molang.specs.FirstFailure.{must, first_of}
use Rattle.molang.specs.Words.{Refusal, row, operator_field, words_refusal}
use Rattle.molang.specs.Parse.{told, tree_in, messages_in}
use Rattle.own.specs.Own.{reading_of}
use Rattle.listing.specs.Rows.{answer_text}

-- The words of bytes, four to a word, the lowest first.
unfoldable pub words_in : List ℕ → List ℕ
words_in [] = []
words_in (a ∷ []) = []
words_in (a ∷ b ∷ []) = []
words_in (a ∷ b ∷ c ∷ []) = []
words_in (a ∷ b ∷ c ∷ d ∷ bytes) = (a + 2 ^ 8 * b + 2 ^ 16 * c + 2 ^ 24 * d) ∷ words_in bytes

-- When a list is turned back: its words are no whole tokens, they are more than 128 tokens, or the entry turns a word back.
unfoldable pub list_fault : List ℕ → Option Refusal
list_fault list =
    first_of
    (must (eqb (length list % 5) 0) (row 1 0) ∷ must (leb (length list) 640) (row 2 0) ∷ words_refusal 0 operator_field 0 list ∷ [])

-- WHAT IS PRINTED for a list at a version.
unfoldable pub list_text : List ℕ → ℤ → List ℕ
list_text list version =
    let fault = list_fault list in
    let answer = reading_of list version in
    answer_text (told fault answer) (tree_in fault answer []) (messages_in fault answer [])
