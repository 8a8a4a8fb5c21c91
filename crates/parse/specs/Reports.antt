-- What the reports ask and ensure: words of whole slots and a message buffer for two records; in its front the records of the messages that
-- what the passes left stands for.
use Rattle.std.specs.Prelude.{ℕ, ◌+◌, ◌*◌, ◌%◌, ◌≤◌, ◌<◌, ◌≡◌, List, [], length, Result, ⊤}
use Rattle.std.proofs.Math.Option.{none}
use Rattle.molang.specs.Forest.{Forest, count, size}
use Rattle.molang.specs.Read.{Answer, rooted}
use Rattle.molang.specs.Parse.{most_tokens, messages_in}
use Rattle.words.specs.Extents.{first_extent}
use Rattle.words.specs.declared.extent.Extent.{Extent}
use Rattle.nodes.specs.Store.{wd}
use Rattle.buffers.specs.Emit.{Linked}
use Rattle.grouping.specs.Grouped.{StandsFor}
use Rattle.levels.specs.declared.failure.Fault.{Fault}

-- The words are whole slots; what the passes left stands for an answer.
pub record CanReport (W messages : List ℕ) (source_length : ℕ) (g : Result ⊤ Fault) : Type 0 where
  pub hi : ℕ
  pub n : ℕ
  pub answer : Answer
  pub stands : StandsFor W hi n source_length g answer
  pub whole : length W % 8 ≡ 0
  pub some : 8 ≤ length W
  pub room : 16 ≤ length messages

-- The answer's records are the front of the message buffer.
pub record Reported (W messages : List ℕ) (source_length : ℕ) (g : Result ⊤ Fault) (messages' : List ℕ) : Type 0 where
  pub records : (hi n : ℕ) (answer : Answer) → StandsFor W hi n source_length g answer → messages' ≡ messages_in none answer messages

-- The same if the source has no part in the messages.
pub record CanReportTwo (W messages : List ℕ) (g : Result ⊤ Fault) : Type 0 where
  pub source_length : ℕ
  pub can : CanReport W messages source_length g

-- The answer's two records are the front of the message buffer, whatever the source's length.
abbrev pub TwoReported : List ℕ → List ℕ → Result ⊤ Fault → List ℕ → Type 0
TwoReported W messages g messages' = (source_length : ℕ) → Reported W messages source_length g messages'

-- ---- the roots

-- The trees made of n tokens, linked from the slot `first` on.
pub record CanMeasure (W : List ℕ) (first n : ℕ) : Type 0 where
  pub trees : Forest
  pub linked : Linked W first (3 * n + 3) trees
  pub nodes : size trees ≤ 3 * n
  pub few : n ≤ most_tokens
  pub room : 64 * n + 64 ≤ length W

-- The extent of the first of them; the slots are as they were. The words above the slots, where the trees were laid out, are left free.
pub record Measured (W : List ℕ) (first n : ℕ) (r : Extent) (W' : List ℕ) : Type 0 where
  pub extent : (f : Forest) → Linked W first (3 * n + 3) f → r ≡ first_extent f
  pub same : (j : ℕ) → j < 24 * n + 24 → wd W' j ≡ wd W j
  pub long : length W' ≡ length W

-- Two trees or more.
pub record CanReportRoots (W messages : List ℕ) (head n : ℕ) : Type 0 where
  pub measure : CanMeasure W head n
  pub several : 2 ≤ count measure.trees
  pub room : 16 ≤ length messages

-- Message 1 over them is the front of the message buffer, and the slots are as they were. The words above the slots, where the trees were
-- laid out, are left free.
pub record RootsReported (W messages : List ℕ) (head n : ℕ) (W' messages' : List ℕ) : Type 0 where
  pub message : (f : Forest) → Linked W head (3 * n + 3) f → 2 ≤ count f → (source_length : ℕ)
      → messages' ≡ messages_in none (rooted source_length [] f) messages
  pub same : (j : ℕ) → j < 24 * n + 24 → wd W' j ≡ wd W j
  pub long : length W' ≡ length W
