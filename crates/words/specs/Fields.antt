-- The fields of a token's words, as `token_of` of the definition reads them, and the words that the reader makes.
use Rattle.std.specs.Prelude.{ℕ, ◌+◌, ◌*◌, ◌/◌, ◌%◌, ◌^◌}
use Rattle.molang.specs.Words.{low_of, number_in}
use Rattle.words.specs.declared.fields.WordKind.{WordKind}
use Rattle.words.specs.declared.fields.WordKind.TheVariants.{Operator, Start, End, Upper, Lower, Children, Close}

-- The number of a kind, which a word has in its top three bits.
abbrev pub kind_number : WordKind → ℕ
kind_number Operator = 1
kind_number Start = 2
kind_number End = 3
kind_number Upper = 4
kind_number Lower = 5
kind_number Children = 6
kind_number Close = 7

-- The operator of a word of kind 1.
unfoldable pub operator_of : ℕ → ℕ
operator_of w = number_in (low_of w)

-- Its payload variant.
unfoldable pub variant_of : ℕ → ℕ
variant_of w = low_of w / 2 ^ 8 % 2 ^ 4

-- The half of a payload value in a word of kind 4 or 5.
unfoldable pub half_of : ℕ → ℕ
half_of w = low_of w % 2 ^ 16

-- The value of both halves.
unfoldable pub value_of : ℕ → ℕ → ℕ
value_of upper lower = half_of upper * 2 ^ 16 + half_of lower

-- A word of kind 1 with another operator, below 256, in place of its own: its payload variant and its bits from 16 on are as they were.
unfoldable pub with_operator : ℕ → ℕ → ℕ
with_operator w op = w / 2 ^ 16 * 2 ^ 16 + variant_of w * 2 ^ 8 + op % 2 ^ 8
