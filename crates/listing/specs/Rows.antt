-- The text of an answer, as document 01 lays it out at its end: numbers in decimal, a space between two of a line. Bytes are ASCII.
use Rattle.std.specs.Prelude.{ℕ, zero, suc, ◌+◌, ◌-◌, ◌*◌, ◌≤◌, List, [], ◌∷◌, ◌++◌, length, take, drop, get_or}
use Rattle.molang.specs.Parse.{Told, a_tree, some_messages, refused}
use Rattle.molang.specs.Words.{low_of}
use Rattle.words.specs.Fields.{operator_of}
use Rattle.text.specs.Text.{ascii, numbered, space, line_end}

-- The first numbers, each with a space after it.
unfoldable pub spaced : ℕ → List ℕ → List ℕ
spaced zero ns = []
spaced (suc i) ns = spaced i ns ++ numbered (get_or ns i 0) space

-- A line of numbers, of which there are some: a space between two, the line's end after the last.
unfoldable pub row : List ℕ → List ℕ
row ns = spaced (length ns - 1) ns ++ numbered (get_or ns (length ns - 1) 0) line_end

-- The numbers of a tree's node, of which the tree words from `at` on are: operator, children, start, end.
unfoldable pub node_numbers : List ℕ → ℕ → List ℕ
node_numbers tree at =
    operator_of (get_or tree at 0) ∷ low_of (get_or tree (at + 5) 0) ∷ low_of (get_or tree (at + 1) 0) ∷ low_of (get_or tree (at + 2) 0) ∷ []

-- A line for each of the first nodes.
unfoldable pub node_rows : ℕ → List ℕ → List ℕ
node_rows zero tree = []
node_rows (suc i) tree = node_rows i tree ++ row (node_numbers tree (7 * i))

-- A line for each of the first message records.
unfoldable pub record_rows : ℕ → List ℕ → List ℕ
record_rows zero messages = []
record_rows (suc i) messages = record_rows i messages ++ row (take 8 (drop (8 * i) messages))

-- An answer, the tree or the messages being those in the buffers.
unfoldable pub answer_text : Told → List ℕ → List ℕ → List ℕ
answer_text (a_tree n) tree messages = (ascii "tree " ++ numbered n line_end) ++ node_rows n tree
answer_text (some_messages n) tree messages = (ascii "messages " ++ numbered n line_end) ++ record_rows n messages
answer_text (refused n place) tree messages = (ascii "refused " ++ numbered n space) ++ numbered place line_end

-- The longest text of an answer has room in the bytes from `at` on, and the buffers hold what it tells.
abbrev pub CanPut : Told → ℕ → List ℕ → List ℕ → List ℕ → Type 0
CanPut (a_tree n) at out tree messages = (at + 26 + 84 * n ≤ length out) × (7 * n ≤ length tree)
CanPut (some_messages n) at out tree messages = (at + 30 + 168 * n ≤ length out) × (8 * n ≤ length messages)
CanPut (refused n place) at out tree messages = at + 50 ≤ length out
