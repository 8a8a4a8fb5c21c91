-- The lift of a plain file of words (docs/FORMAT.md): which lists it has, what becomes of each, and THE LIFTED FILE.
use Rattle.std.specs.Prelude.{ℕ, ◌/◌, ◌%◌, ◌^◌, Bool, true, false, List, [], ◌∷◌, ◌++◌, eqb, ltb}
use Rattle.molang.specs.Words.{kind_of}
use Rattle.molang.specs.Lines.{version_of}
use Rattle.molang.specs.Lift.{Engine, Lifted, same, lifted, behind, lift_of}
use Rattle.text.specs.Text.{ascii, line_end}
use Rattle.listing.specs.Lists.{words_in}

-- ---- Words and bytes

-- The bytes of words, four to a word, the lowest first.
unfoldable pub bytes_of : List ℕ → List ℕ
bytes_of [] = []
bytes_of (w ∷ words) = w % 2 ^ 8 ∷ w / 2 ^ 8 % 2 ^ 8 ∷ w / 2 ^ 16 % 2 ^ 8 ∷ w / 2 ^ 24 % 2 ^ 8 ∷ bytes_of words

-- The bytes behind the last whole word.
unfoldable pub bytes_behind : List ℕ → List ℕ
bytes_behind [] = []
bytes_behind (a ∷ []) = a ∷ []
bytes_behind (a ∷ b ∷ []) = a ∷ b ∷ []
bytes_behind (a ∷ b ∷ c ∷ []) = a ∷ b ∷ c ∷ []
bytes_behind (a ∷ b ∷ c ∷ d ∷ bytes) = bytes_behind bytes

-- ---- The lists of a file

-- A word of kind 0 opens a list.
unfoldable pub opens_list : ℕ → Bool
opens_list w = eqb (kind_of w) 0

-- A version word is of kind 0 with no bit above the lowest sixteen: it is below 2 ^ 16.
unfoldable pub is_version_word : ℕ → Bool
is_version_word w = ltb w (2 ^ 16)

-- A list of a file: its opener, and its words.
pub record FileList : Type 0 where
  pub opener : ℕ
  pub words : List ℕ

-- The list with this opener and these words.
abbrev pub file_list : ℕ → List ℕ → FileList
file_list opener words = record { opener = opener; words = words }

-- Both, as they stand in a file.
abbrev pub all_words : FileList → List ℕ
all_words l = l.opener ∷ l.words

-- Words cut at the openers: those before the first of them, and the lists.
pub record FileCut : Type 0 where
  pub before : List ℕ
  pub lists : List FileList

-- The cut of words, from their end on: an opener makes a list of the words up to the next one.
unfoldable pub file_cut : List ℕ → FileCut
file_cut [] = record { before = []; lists = [] }
file_cut (w ∷ words) =
    let rest = file_cut words in
    elim (opens_list w) [
      | true ↦ record { before = []; lists = file_list w rest.before ∷ rest.lists }
      | false ↦ record {
        before = w ∷ rest.before;
        lists = rest.lists;
      }
    ]

-- The words of lists, one list behind the other.
unfoldable pub joined_lists : List FileList → List ℕ
joined_lists [] = []
joined_lists (l ∷ ls) = all_words l ++ joined_lists ls

-- ---- What becomes of them

-- The engine of a version word; the programs read up to 4,096 brackets deep.
abbrev pub engine_of : ℕ → Engine
engine_of v = record { version = version_of v; limit = 4096 }

-- By its lift: a list that stays or comes out carries the new version, and one that stays behind is as it was.
unfoldable pub carried_by : ℕ → FileList → Lifted → FileList
carried_by v l same = file_list v l.words
carried_by v l (lifted out) = file_list v out
carried_by v l (behind number place) = l

-- WHAT BECOMES OF A LIST; one whose opener is no version stays behind.
unfoldable pub carried : ℕ → FileList → FileList
carried v l =
    elim (is_version_word l.opener) [ true ↦ carried_by v l (lift_of (engine_of l.opener) (engine_of v) l.words) | false ↦ l ]

-- Each of them.
unfoldable pub carried_all : ℕ → List FileList → List FileList
carried_all v [] = []
carried_all v (l ∷ ls) = carried v l ∷ carried_all v ls

-- The words of a file: those before the first opener as they are, then the lists.
unfoldable pub lifted_words : ℕ → List ℕ → List ℕ
lifted_words v words = (file_cut words).before ++ joined_lists (carried_all v (file_cut words).lists)

-- ---- The file

-- What is written if the first word is missing or is no version.
unfoldable pub refused_line : List ℕ
refused_line = ascii "refused 8 0" ++ (line_end ∷ [])

-- By the input's words: the first is the new version, and the file is behind it.
unfoldable pub lifted_behind : List ℕ → List ℕ → List ℕ
lifted_behind [] tail = refused_line
lifted_behind (v ∷ words) tail = elim (is_version_word v) [ true ↦ bytes_of (lifted_words v words) ++ tail | false ↦ refused_line ]

-- THE LIFTED FILE for an input of these bytes; those behind the last whole word go through.
unfoldable pub lifted_file : List ℕ → List ℕ
lifted_file bytes = lifted_behind (words_in bytes) (bytes_behind bytes)
