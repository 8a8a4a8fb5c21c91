-- What a version lift would do (document 02, card 10): which lists an input has, what each comes to at the two versions, and WHAT IS
-- PRINTED for an input.
use Rattle.std.specs.Prelude.{ℕ, suc, ◌%◌, ◌^◌, Bool, true, false, not, ◌&&◌, List, [], ◌∷◌, ◌++◌, eqb, ltb, ℤ, length, drop, get_or}
use Rattle.std.proofs.Math.Option.{Option, none, some}
use Rattle.molang.specs.FirstFailure.{must, first_of}
use Rattle.molang.specs.Forest.{nil, node}
use Rattle.molang.specs.Words.{Refusal, row, kind_of, tree_words}
use Rattle.molang.specs.Read.{Answer, tree, messages}
use Rattle.molang.specs.Parse.{refused}
use Rattle.molang.specs.Lines.{version_of}
use Rattle.molang.specs.Lift.{eq_words, are_same}
use Rattle.text.specs.Text.{numbered, line_end}
use Rattle.listing.specs.Rows.{answer_text}
use Rattle.own.specs.Own.{reading_of}
use Rattle.listing.specs.Lists.{words_in, list_fault}

-- ---- The lists of an input

-- A word of kind 0 opens a list; its low bits are not looked at.
unfoldable pub opens : ℕ → Bool
opens w = eqb (kind_of w) 0

-- Words cut at the openers: those before the first of them, and the list behind each.
pub record Cut : Type 0 where
  pub before : List ℕ
  pub lists : List (List ℕ)

-- The cut of words, from their end on: an opener makes a list of the words up to the next one.
unfoldable pub cut : List ℕ → Cut
cut [] = record { before = []; lists = [] }
cut (w ∷ words) =
    let rest = cut words in
    elim (opens w) [
      | true ↦ record { before = []; lists = rest.before ∷ rest.lists }
      | false ↦ record {
        before = w ∷ rest.before;
        lists = rest.lists;
      }
    ]

-- The lists behind the two version words.
unfoldable pub lists_in : List ℕ → List (List ℕ)
lists_in words = (cut (drop 2 words)).lists

-- ---- What a list comes to at two versions

-- Two trees, some word different.
unfoldable pub are_different : Answer → Answer → Bool
are_different (tree k cs) (tree l ds) = not (eq_words (tree_words (node k cs nil)) (tree_words (node l ds nil)))
are_different (tree k cs) (messages ms) = false
are_different (messages ms) (tree l ds) = false
are_different (messages ms) (messages ns) = false

-- A tree and messages.
unfoldable pub one_has_messages : Answer → Answer → Bool
one_has_messages (tree k cs) (tree l ds) = false
one_has_messages (tree k cs) (messages ms) = true
one_has_messages (messages ms) (tree l ds) = true
one_has_messages (messages ms) (messages ns) = false

-- Messages twice.
unfoldable pub both_have_messages : Answer → Answer → Bool
both_have_messages (tree k cs) (tree l ds) = false
both_have_messages (tree k cs) (messages ms) = false
both_have_messages (messages ms) (tree l ds) = false
both_have_messages (messages ms) (messages ns) = true

-- THE FOUR TESTS of a list, read at both versions: the same tree.
unfoldable pub same_tree : ℤ → ℤ → List ℕ → Bool
same_tree from to list = are_same (reading_of list from) (reading_of list to)

-- Different trees.
unfoldable pub different_trees : ℤ → ℤ → List ℕ → Bool
different_trees from to list = are_different (reading_of list from) (reading_of list to)

-- A message at one version only.
unfoldable pub message_at_one : ℤ → ℤ → List ℕ → Bool
message_at_one from to list = one_has_messages (reading_of list from) (reading_of list to)

-- A message at both.
unfoldable pub message_at_both : ℤ → ℤ → List ℕ → Bool
message_at_both from to list = both_have_messages (reading_of list from) (reading_of list to)

-- How many lists pass a test.
unfoldable pub how_many : (List ℕ → Bool) → List (List ℕ) → ℕ
how_many test [] = 0
how_many test (l ∷ ls) = elim (test l) [ true ↦ suc (how_many test ls) | false ↦ how_many test ls ]

-- ---- Where an input is turned back

-- A version word is of kind 0 with no bit above the lowest sixteen: it is below 2 ^ 16.
unfoldable pub is_version : ℕ → Bool
is_version w = ltb w (2 ^ 16)

-- Two version words, and behind them nothing or a list's opener.
unfoldable pub begins : List ℕ → Bool
begins [] = false
begins (v ∷ []) = false
begins (v ∷ w ∷ []) = is_version v && is_version w
begins (v ∷ w ∷ o ∷ words) = is_version v && (is_version w && opens o)

-- The refusal of the first list that treelist would refuse; its place counts from the word after the opener.
unfoldable pub first_fault : List (List ℕ) → Option Refusal
first_fault [] = none
first_fault (l ∷ ls) = first_of (list_fault l ∷ first_fault ls ∷ [])

-- Where an input of these bytes is turned back.
unfoldable pub input_fault : List ℕ → Option Refusal
input_fault bytes =
    first_of
    (must (eqb (length bytes % 4) 0) (row 1 0)
    ∷ must (begins (words_in bytes)) (row 8 0)
    ∷ first_fault (lists_in (words_in bytes))
    ∷ [])

-- ---- The text

-- Five numbers, one a line: lists read, same tree, different trees, message at one version only, message at both.
unfoldable pub count_lines : ℕ → ℕ → ℕ → ℕ → ℕ → List ℕ
count_lines all same different one both =
    (((numbered all line_end ++ numbered same line_end) ++ numbered different line_end) ++ numbered one line_end) ++ numbered both line_end

-- The counts over the lists of an input.
unfoldable pub count_text : ℤ → ℤ → List (List ℕ) → List ℕ
count_text from to ls =
    count_lines (length ls) (how_many (same_tree from to) ls) (how_many (different_trees from to) ls) (how_many (message_at_one from to) ls)
    (how_many (message_at_both from to) ls)

-- A refusal's line, as treelist prints it.
unfoldable pub refusal_line : ℕ → ℕ → List ℕ
refusal_line number place = answer_text (refused number place) [] []

-- WHAT IS PRINTED for an input of these bytes.
unfoldable pub printed : List ℕ → List ℕ
printed bytes =
    let words = words_in bytes in
    elim (input_fault bytes) [
      | some r ↦ refusal_line r.number r.place
      | none ↦ count_text (version_of (get_or words 0 0))
          (version_of (get_or words 1 0)) (lists_in words)
    ]
