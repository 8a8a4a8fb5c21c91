-- The whole of a run: what came of an input, and what was handed to `write`.
use Rattle.std.specs.Prelude.{ℕ, ◌≤◌, ◌≡◌, List, ◌++◌, length, take, replicate}
use Rattle.treelist.specs.Listing.{printed}

-- WHAT CAME BEHIND THE FRONT: some bytes, and behind them those that came last, which lie in front of the space.
pub record RestRead (space : List ℕ) (last bytes : ℕ) : Type 0 where
  pub before : List ℕ
  pub size : bytes ≡ length (before ++ take last space)
  pub room : bytes ≤ 72057594037927936

-- WHAT CAME: an input with this front, of so many bytes.
pub record Came (front : List ℕ) (bytes : ℕ) : Type 0 where
  pub input : List ℕ
  pub first : take 2564 input ≡ front
  pub size : length input ≡ bytes

-- WHAT IS PRINTED for an input: by its count of bytes and its front, over zeros.
unfoldable pub printed_for : List ℕ → List ℕ
printed_for input = printed (length input) (take 2564 (input ++ replicate 2564 0))

-- A text that is printed for an input.
pub record IsPrinted (text : List ℕ) : Type 0 where
  pub input : List ℕ
  pub is : text ≡ printed_for input
