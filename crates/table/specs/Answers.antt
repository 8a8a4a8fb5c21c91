-- What a line says of the answer of a call: what is told, and what the lent buffers hold after it.
use Rattle.std.specs.Prelude.{ℕ, ◌-◌, Bool, true, false, ◌&&◌, List, eqb, ltb, length, get_or}
use Rattle.molang.specs.Lines.{zeros_mark, tree_mark, message_mark, refused_mark}
use Rattle.table.specs.Marked.{second_at, said_count, holds_from}

-- How many messages a line says: a second one, if a mark stands after the first.
unfoldable pub message_count : List ℕ → ℕ
message_count said = elim (ltb (second_at said) (length said)) [ true ↦ 2 | false ↦ 1 ]

-- How many nodes, messages or tokens it says.
unfoldable pub said_number : List ℕ → ℕ
said_number said = elim (eqb (get_or said 0 0) message_mark) [ true ↦ message_count said | false ↦ length said - 1 ]

-- Whether it says this mark and this many.
unfoldable pub is_count : ℕ → ℕ → List ℕ → Bool
is_count mark n said = eqb mark (get_or said 0 0) && eqb n (said_number said)

-- Whether it says this refusal.
unfoldable pub is_refusal : ℕ → ℕ → List ℕ → Bool
is_refusal number place said = eqb (get_or said 0 0) refused_mark && eqb number (get_or said 1 0) && eqb place (get_or said 2 0)

-- What a call leaves in each word of a work buffer of ones: a refusal leaves it as it was.
unfoldable pub kept : List ℕ → ℕ
kept said = elim (eqb (get_or said 0 0) refused_mark) [ true ↦ 1 | false ↦ 0 ]

-- Whether a buffer holds what the line says for this mark, and `rest` in each word after it.
abbrev pub holding : ℕ → List ℕ → ℕ → List ℕ → Bool
holding mark said rest buffer = holds_from 0 said (said_count mark said) rest buffer

-- Whether a parse call left this, the work buffer having been of ones and the others of zeros.
unfoldable pub is_left : List ℕ → List ℕ → List ℕ → List ℕ → Bool
is_left tree messages work said =
    holding tree_mark said 0 tree && holding message_mark said 0 messages && holding zeros_mark said (kept said) work
