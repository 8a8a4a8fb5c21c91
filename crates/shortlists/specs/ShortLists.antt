-- Every list of an alphabet's operator numbers up to a length (document 02, card 9): short ones first, then by the letters' indices from
-- the left; the tokens of the list at a position; and when a generator turns a call back.
use Rattle.std.specs.Prelude.{ℕ, zero, suc, ◌+◌, ◌^◌, ◌<◌, ◌≡◌, Bool, true, false, not, ◌&&◌, ◌||◌, List, [], ◌∷◌, ◌++◌, eqb, leb, ltb, length, get_or}
use Rattle.std.proofs.Math.Option.{Option}
use Rattle.molang.specs.Operator.{is_operator}
use Rattle.molang.specs.Forest.{Token}
use Rattle.molang.specs.FirstFailure.{must, first_of}
use Rattle.molang.specs.Words.{Refusal, row}
use Rattle.molang.specs.Lines.{tokens_from}

-- A letter before each list.
unfoldable pub led : ℕ → List (List ℕ) → List (List ℕ)
led a [] = []
led a (l ∷ ls) = (a ∷ l) ∷ led a ls

-- Each letter before each list, by the letter first.
unfoldable pub before : List ℕ → List (List ℕ) → List (List ℕ)
before [] ls = []
before (a ∷ letters) ls = led a ls ++ before letters ls

-- The lists of n letters.
unfoldable pub of_length : List ℕ → ℕ → List (List ℕ)
of_length letters zero = [] ∷ []
of_length letters (suc n) = before letters (of_length letters n)

-- EVERY LIST of at most n letters, short ones first.
unfoldable pub up_to : List ℕ → ℕ → List (List ℕ)
up_to letters zero = of_length letters zero
up_to letters (suc n) = up_to letters n ++ of_length letters (suc n)

-- The letter is one of these.
unfoldable pub among : ℕ → List ℕ → Bool
among a [] = false
among a (b ∷ letters) = eqb a b || among a letters

-- No letter occurs twice.
unfoldable pub different : List ℕ → Bool
different [] = true
different (a ∷ letters) = not (among a letters) && different letters

-- Each letter is a number that an operator can have; hosts' numbers are such (card 7).
unfoldable pub each_legal : List ℕ → Bool
each_legal [] = true
each_legal (a ∷ letters) = is_operator a && each_legal letters

-- An alphabet: 1 to 8 different operator numbers.
unfoldable pub is_alphabet : List ℕ → Bool
is_alphabet letters = leb 1 (length letters) && (leb (length letters) 8 && (different letters && each_legal letters))

-- When `count` turns a call back: 19 by the alphabet, checked first, 20 by the length.
unfoldable pub count_refusal : List ℕ → ℕ → Option Refusal
count_refusal letters n = first_of (must (is_alphabet letters) (row 19 0) ∷ must (leb n 6) (row 20 0) ∷ [])

-- When `list_at` does: then too, and with 20 at a position past the last list.
unfoldable pub list_refusal : List ℕ → ℕ → ℕ → Option Refusal
list_refusal letters n position =
    first_of (count_refusal letters n ∷ must (ltb position (length (up_to letters n))) (row 20 0) ∷ [])

-- THE LIST AT A POSITION, counted from 0: its spans run 0 to 1, 1 to 2 and on, and its payloads are 0.
unfoldable pub list_at : List ℕ → ℕ → ℕ → List Token
list_at letters n position = tokens_from 0 (get_or (up_to letters n) position [])

-- The first n powers of k, added up: 1 + k + k * k and on.
unfoldable pub powers : ℕ → ℕ → ℕ
powers k zero = 0
powers k (suc n) = powers k n + k ^ n

-- Each letter of a list is one of these.
unfoldable pub are_letters : List ℕ → List ℕ → Bool
are_letters letters [] = true
are_letters letters (a ∷ l) = among a letters && are_letters letters l

-- The list stands at a position among these.
pub record Stands (ls : List (List ℕ)) (l : List ℕ) : Type 0 where
  pub position : ℕ
  pub below : position < length ls
  pub is : get_or ls position [] ≡ l

-- A list stands before another of its length: at the first letter in which they differ it has the one with the lower index.
pub data Smaller (letters : List ℕ) : List ℕ → List ℕ → Type 0 where
  differs : {i j : ℕ} {l m : List ℕ} → i < j → j < length letters → Smaller letters (get_or letters i 0 ∷ l) (get_or letters j 0 ∷ m)
  agrees : {a : ℕ} {l m : List ℕ} → Smaller letters l m → Smaller letters (a ∷ l) (a ∷ m)
