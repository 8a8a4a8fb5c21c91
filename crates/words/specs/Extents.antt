-- The extent of trees: the definition's lowest start and highest end, taken together.
use Rattle.std.specs.Prelude.{ℕ, ◌-◌, ◌^◌, min, max}
use Rattle.molang.specs.Forest.{Forest, nil, node}
use Rattle.molang.specs.Read.{lowest_start, highest_end}
use Rattle.molang.specs.Words.{low_of}
use Rattle.words.specs.declared.extent.Extent.{Extent}

-- An extent with the span of two words taken in.
unfoldable pub wider : Extent → ℕ → ℕ → Extent
wider e s t = record { start = min e.start (low_of s); end = max e.end (low_of t) }

-- An extent with those of the trees taken in.
unfoldable pub extent_with : Extent → Forest → Extent
extent_with e f = record { start = lowest_start e.start f; end = highest_end e.end f }

-- The extent of the first tree; of none, the one that holds nothing.
unfoldable pub first_extent : Forest → Extent
first_extent nil = record { start = 2 ^ 29 - 1; end = 0 }
first_extent (node k cs rest) = record { start = lowest_start k.start cs; end = highest_end k.end cs }
