-- What the functions between the checks and the answer ask and ensure: the caller's buffers hold what the definition's answer says.
use Rattle.std.specs.Prelude.{ℕ, ◌+◌, ◌*◌, ◌≤◌, ◌≡◌, List, ℤ, length, Ok, Result, ⊤}
use Rattle.std.proofs.Math.Option.{none}
use Rattle.molang.specs.Read as reading
use Rattle.molang.specs.Words.{tokens_of, operator_field, words_refusal}
use Rattle.molang.specs.Parse.{most_tokens, told, tree_in, messages_in}
use Rattle.ops.specs.declared.sets.OpSet.{OpSet}
use Rattle.order.specs.Ranks.{used_by}
use Rattle.grouping.specs.Grouped.{StandsFor}
use Rattle.levels.specs.declared.failure.Fault.{Fault}
use Rattle.parse.specs.declared.Answer.{Answer}
use Rattle.parse.specs.Answers.{told_of}

-- The answer r and the buffers after it, said of the definition's answer.
pub record FilledAs (buffer messages : List ℕ) (r : Answer) (buffer' messages' : List ℕ) (answer : reading.Answer) : Type 0 where
  pub tells : told_of (Ok r) ≡ told none answer
  pub tree : buffer' ≡ tree_in none answer buffer
  pub records : messages' ≡ messages_in none answer messages

-- ---- `fill_roots`, `fill`

-- What the passes left of n tokens, in a work buffer of just the words that the entry asks for.
pub record CanFill (W buffer messages : List ℕ) (n source_length : ℕ) (g : Result ⊤ Fault) : Type 0 where
  pub answer : reading.Answer
  pub stands : StandsFor W (3 * n + 3) n source_length g answer
  pub few : n ≤ most_tokens
  pub words : length W ≡ 64 * n + 64
  pub tree-room : 21 * n ≤ length buffer
  pub message-room : 16 ≤ length messages

-- Whatever answer that is, it is told and laid out. The work buffer is left free: the entry clears it.
pub record Filled (W buffer messages : List ℕ) (n source_length : ℕ) (g : Result ⊤ Fault) (r : Answer) (buffer' messages' : List ℕ) : Type 0 where
  pub holds : (answer : reading.Answer) → StandsFor W (3 * n + 3) n source_length g answer
      → FilledAs buffer messages r buffer' messages' answer

-- ---- `read`

-- A list of n tokens without fault, and buffers as the entry asks for them.
pub record CanRead (list W buffer messages : List ℕ) (n : ℕ) : Type 0 where
  pub faultless : words_refusal 0 operator_field 0 list ≡ none
  pub tokens : length list ≡ 5 * n
  pub few : n ≤ most_tokens
  pub words : length W ≡ 64 * n + 64
  pub tree-room : 21 * n ≤ length buffer
  pub message-room : 16 ≤ length messages

-- The definition's reading of the list's tokens is told and laid out. The work buffer is left free: the entry clears it.
pub record HasRead (list buffer messages : List ℕ) (source_length : ℕ) (version : ℤ) (used : OpSet) (r : Answer)
    (buffer' messages' : List ℕ) : Type 0 where
  pub holds : FilledAs buffer messages r buffer' messages' (reading.read (tokens_of list) (used_by used) version source_length)
