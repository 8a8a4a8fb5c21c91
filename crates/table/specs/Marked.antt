-- A mark and its items as one list, the mark first: the words that they stand for and how many these are, those words laid into a buffer,
-- and whether a buffer holds them. What an item says is molang's (specs/Lines).
use Rattle.std.specs.Prelude.{ℕ, zero, suc, ◌+◌, ◌-◌, ◌*◌, ◌/◌, ◌%◌, ◌^◌, Bool, true, false, ◌&&◌, List, [], ◌∷◌, ◌++◌, eqb, leb, ltb, length, take, drop, get_or}
use Rattle.molang.specs.Forest.{Token}
use Rattle.molang.specs.Words.{low_of, token_words}
use Rattle.molang.specs.Lines.{any_mark, write_mark, zeros_mark, repeated_mark, tree_mark, message_mark, list_mark, refused_mark}
use Rattle.molang.specs.Lines.{node_words, record_of}

-- Whether a number is a mark below `last`.
unfoldable pub is_mark : ℕ → ℕ → Bool
is_mark last n = leb any_mark n && ltb n last

-- How many numbers stand in front of the first such mark.
unfoldable pub unmarked : ℕ → List ℕ → ℕ
unmarked last [] = 0
unmarked last (n ∷ ns) = elim (is_mark last n) [ true ↦ 0 | false ↦ 1 + unmarked last ns ]

-- Above every mark.
abbrev pub most : ℕ
most = 4294967295

-- WORDS. A token of payload 0: its words hold twelve bits of its number and 29 of a start or an end.
abbrev pub bare : ℕ → ℕ → ℕ → Token
bare op start end = record { op = op % 2 ^ 12; variant = 0; value = 0; start = low_of start; end = low_of end; close = low_of end }

-- A word of that token.
unfoldable pub token_word : ℕ → ℕ → ℕ → ℕ → ℕ
token_word op start end field = get_or (token_words (bare op start end)) field 0

-- A word of a node.
unfoldable pub node_word : ℕ → ℕ → ℕ
node_word node field = get_or (node_words (node ∷ [])) field 0

-- A word of the record of a message, which is a mark and its items.
unfoldable pub record_word : List ℕ → ℕ → ℕ
record_word message field = get_or (record_of (drop 1 message)) field 0

-- Where the second mark stands, or the end of the numbers: where the second of two messages starts.
unfoldable pub second_at : List ℕ → ℕ
second_at said = 1 + unmarked most (drop 1 said)

-- A word of two records: those of the first message, and then those of the second.
unfoldable pub message_word : List ℕ → ℕ → ℕ
message_word said i =
    elim (ltb i 8) [ true ↦ record_word (take (second_at said) said) i | false ↦ record_word (drop (second_at said) said) (i % 8) ]

-- A word of a written token, which is op_ss_ee.
unfoldable pub written_word : ℕ → ℕ → ℕ
written_word item field = token_word (item / 10000) (item / 100 % 100) (item % 100) field

-- A word of the i-th token of a list that is given by its operators.
unfoldable pub operator_word : ℕ → ℕ → ℕ → ℕ
operator_word op i field = token_word op (i % 2 ^ 16) (i % 2 ^ 16 + 1) field

-- The number that a table has beside a mark, or another if it has none.
unfoldable pub beside_mark : List (ℕ × ℕ) → ℕ → ℕ → ℕ
beside_mark [] mark other = other
beside_mark ((m, n) ∷ rest) mark other = elim (eqb mark m) [ true ↦ n | false ↦ beside_mark rest mark other ]

-- The i-th word by the mark; a mark that stands for a list of operators is none of these.
unfoldable pub words_by : List ℕ → ℕ → List (ℕ × ℕ)
words_by marked i =
    (write_mark, node_word (get_or marked (i / 7 + 1) 0) (i % 7))
    ∷ (tree_mark, node_word (get_or marked (i / 7 + 1) 0) (i % 7))
    ∷ (message_mark, message_word marked i)
    ∷ (list_mark, written_word (get_or marked (i / 5 + 1) 0) (i % 5))
    ∷ (zeros_mark, 0)
    ∷ (repeated_mark, token_word (get_or marked 2 0) 0 0 (i % 5))
    ∷ []

-- The i-th word of what a mark and its items stand for.
unfoldable pub marked_word : List ℕ → ℕ → ℕ
marked_word marked i = beside_mark (words_by marked i) (get_or marked 0 0) (operator_word (get_or marked (i / 5 + 1) 0) (i / 5) (i % 5))

-- How many words these are, by the mark; another mark's items are so many tokens.
unfoldable pub counts_by : List ℕ → List (ℕ × ℕ)
counts_by marked =
    (zeros_mark, get_or marked 1 0)
    ∷ (repeated_mark, 5 * get_or marked 1 0)
    ∷ (write_mark, 7 * (length marked - 1))
    ∷ (tree_mark, 7 * (length marked - 1))
    ∷ (message_mark, 16)
    ∷ (refused_mark, 0)
    ∷ []

-- How many words a mark and its items stand for. Messages fill both records.
unfoldable pub marked_count : List ℕ → ℕ
marked_count marked = beside_mark (counts_by marked) (get_or marked 0 0) (5 * (length marked - 1))

-- BUFFERS. The first n of these words.
unfoldable pub first_words : ℕ → List ℕ → List ℕ
first_words zero marked = []
first_words (suc n) marked = first_words n marked ++ (marked_word marked n ∷ [])

-- So many words, or none if there is no room for them.
unfoldable pub fitting : ℕ → ℕ → ℕ
fitting room n = elim (ltb room n) [ true ↦ 0 | false ↦ n ]

-- How many words of the buffer for this mark's items a line says.
unfoldable pub said_count : ℕ → List ℕ → ℕ
said_count mark said = elim (eqb mark (get_or said 0 0)) [ true ↦ marked_count said | false ↦ 0 ]

-- The i-th word of a buffer that holds the first n words of what a line says, and `rest` after them.
unfoldable pub said_word : List ℕ → ℕ → ℕ → ℕ → ℕ
said_word said n rest i = elim (ltb i n) [ true ↦ marked_word said i | false ↦ rest ]

-- Whether these are the words of that buffer from the i-th on, and the buffer has room for the n.
unfoldable pub holds_from : ℕ → List ℕ → ℕ → ℕ → List ℕ → Bool
holds_from i said n rest [] = leb n i
holds_from i said n rest (w ∷ ws) = eqb w (said_word said n rest i) && holds_from (i + 1) said n rest ws
