-- The whole of a run: what came of an input, chunk by chunk, and what was handed to `write`, position by position.
use Rattle.std.specs.Prelude.{ℕ, ◌+◌, ◌≤◌, ◌≡◌, Bool, ◌&&◌, List, [], ◌++◌, length, take, drop}
use Rattle.std.proofs.Math.Option.{some}
use Rattle.listing.specs.Lists.{words_in}
use Rattle.everylist.specs.declared.read.Rest.{Rest}
use Rattle.everylist.specs.EveryList.{all_numbers, printed}
use Rattle.everylist.specs.declared.kept.Kept.{Kept}
use Rattle.everylist.specs.Steps.{kept_of, text_at}

-- One chunk more: it is counted, and its words are looked at.
pub record Onward (rest : Rest) (chunk : List ℕ) (next : Rest) : Type 0 where
  pub bytes : next.bytes ≡ rest.bytes + length chunk
  pub fine : next.fine ≡ (rest.fine && all_numbers (words_in chunk))
  pub last : next.last ≡ length chunk

-- WHAT CAME BEHIND THE FRONT: some bytes, and behind them those that came last, which lie in front of the space.
pub record RestRead (space : List ℕ) (rest : Rest) : Type 0 where
  pub before : List ℕ
  pub bytes : rest.bytes ≡ length (before ++ take rest.last space)
  pub fine : rest.fine ≡ all_numbers (words_in (before ++ take rest.last space))
  pub room : rest.bytes ≤ 72057594037927936

-- WHAT CAME: an input with this front, of so many bytes, whose words behind the front are fine or not.
pub record Came (front : List ℕ) (bytes : ℕ) (fine : Bool) : Type 0 where
  pub input : List ℕ
  pub first : take 44 input ≡ front
  pub size : length input ≡ bytes
  pub rest : all_numbers (words_in (drop 44 input)) ≡ fine

-- What is kept is kept of an input.
pub record OfInput (k : Kept) : Type 0 where
  pub input : List ℕ
  pub is : k ≡ kept_of input

-- The texts that were handed over, one after another, up to a position.
pub data Handed (k : Kept) : ℕ → List ℕ → Type 0 where
  none_yet : Handed k 0 []
  one_more : {position : ℕ} {before : List ℕ} → Handed k position before → (text : List ℕ) → text_at k position ≡ some text
      → Handed k (position + 1) (before ++ text)

-- WHAT WAS HANDED OVER, if no write failed: the texts up to a position that has none. They are what is printed for whatever input this is
-- kept of.
pub record Whole (k : Kept) (positions : ℕ) : Type 0 where
  pub text : List ℕ
  pub steps : Handed k positions text
  pub prints : (input : List ℕ) → k ≡ kept_of input → text ≡ printed input
