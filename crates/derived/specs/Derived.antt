-- The exact used set and the highest span end of token words (document 01, end of 'Lists and their trees'). Each word is judged by itself,
-- at its position in its token: one that answers 8-11 counts for neither, wherever it stands and whatever stands beside it.
use Rattle.std.specs.Prelude.{ℕ, max, Bool, false, ◌||◌, ◌&&◌, List, [], ◌∷◌, eqb, leb}
use Rattle.std.proofs.Math.Option.{none, some}
use Rattle.molang.specs.Words.{Field, operator_field, start_field, end_field, upper_field, lower_field, count_field, close_field}
use Rattle.molang.specs.Words.{low_of, number_in, word_fault, next_in_token}

-- The word names the operator n: it stands first in its token, is legal there, and has n, which is no host's number.
unfoldable pub names : Field → ℕ → ℕ → Bool
names operator_field w n = elim (word_fault operator_field 0 w) [ some fault ↦ false | none ↦ leb n 110 && eqb (number_in (low_of w)) n ]
names start_field w n = false
names end_field w n = false
names upper_field w n = false
names lower_field w n = false
names count_field w n = false
names close_field w n = false

-- THE EXACT USED SET of words, the first of which stands in this field.
unfoldable pub named : Field → List ℕ → ℕ → Bool
named field [] n = false
named field (w ∷ ws) n = names field w n || named (next_in_token field) ws n

-- The highest end after a word, m being the highest before it.
unfoldable pub end_after : Field → ℕ → ℕ → ℕ
end_after operator_field m w = m
end_after start_field m w = m
end_after end_field m w = elim (word_fault end_field 0 w) [ some fault ↦ m | none ↦ max m (low_of w) ]
end_after upper_field m w = m
end_after lower_field m w = m
end_after count_field m w = m
end_after close_field m w = m

-- THE HIGHEST SPAN END of words, the first of which stands in this field; m is the highest before them, 0 at the start.
unfoldable pub highest : Field → ℕ → List ℕ → ℕ
highest field m [] = m
highest field m (w ∷ ws) = highest (next_in_token field) (end_after field m w) ws
