-- Text as bytes: quoted text by its codes, numbers in decimal, and what it is to lay text into bytes from an index on.
use Rattle.std.specs.Prelude.{ℕ, zero, suc, ◌+◌, ◌/◌, ◌%◌, ◌≡◌, true, false, List, [], ◌∷◌, ◌++◌, ltb, length}
use Prim.Native.Char.{code}
use Prim.Native.String.{String, [] as empty, ◌∷◌ as ◌then◌}
use Rattle.words.specs.Records.{laid_at}

-- The codes of a quoted text, which are its bytes where all its characters are ASCII.
abbrev pub ascii : String → List ℕ
ascii empty = []
ascii (c then s) = code c ∷ ascii s

-- A number in decimal with no zero in front, of at most so many digits.
unfoldable pub decimal_in : ℕ → ℕ → List ℕ
decimal_in zero n = []
decimal_in (suc k) n = elim (ltb n 10) [ true ↦ (48 + n) ∷ [] | false ↦ decimal_in k (n / 10) ++ ((48 + n % 10) ∷ []) ]

-- Twenty digits hold every number of 64 bits.
unfoldable pub decimal : ℕ → List ℕ
decimal n = decimal_in 20 n

-- A number and the byte after it.
unfoldable pub numbered : ℕ → ℕ → List ℕ
numbered n after = decimal n ++ (after ∷ [])

-- The byte between two numbers of a line.
abbrev pub space : ℕ
space = 32

-- The byte after a line.
abbrev pub line_end : ℕ
line_end = 10

-- A text laid into bytes from the index `at` on, with all else as it was; `end` is the index behind it.
pub record Wrote (before : List ℕ) (at : ℕ) (text : List ℕ) (end : ℕ) (after : List ℕ) : Type 0 where
  pub ends : end ≡ at + length text
  pub whole : after ≡ laid_at at text before
