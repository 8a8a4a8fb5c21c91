-- What a mark that asks for a reading says of it: the versions, by their sixteen bits, and the nesting limit.
use Rattle.std.specs.Prelude.{ℕ, ◌-◌, ◌%◌, ◌^◌, true, false, eqb, leb}
use Rattle.molang.specs.Parse.{most_tokens}
use Rattle.molang.specs.Lines.{any_mark, at_mark, within_mark}

-- The last version: the one that the mark names, or 6.
unfoldable pub last_version : ℕ → ℕ
last_version mark =
    elim (leb within_mark mark) [ true ↦ 6 | false ↦ elim (leb at_mark mark) [ true ↦ (mark - at_mark) % 2 ^ 16 | false ↦ 6 ] ]

-- The first version: 4 if the list is to be read at 4, 5 and 6, else the last.
unfoldable pub first_version : ℕ → ℕ
first_version mark = elim (eqb mark any_mark) [ true ↦ 4 | false ↦ last_version mark ]

-- The nesting limit: the one that the mark names, or the highest.
unfoldable pub limit_of : ℕ → ℕ
limit_of mark = elim (leb within_mark mark) [ true ↦ mark - within_mark | false ↦ most_tokens ]
