-- What holds of an open list from one opening on (document 02, card 11), each call getting state and slice as the last one left them: the
-- edit that changes nothing, and what it is to answer as asked.
use Rattle.std.specs.Prelude.{ℕ, ◌*◌, ◌≡◌, [], length, take}
use Rattle.molang.specs.Parse.{a_tree, some_messages}
use Rattle.held.specs.Held.{Edit, Lent, Left}

-- The edit at place 0 that removes and puts in nothing.
unfoldable pub nothing : Edit
nothing = record { place = 0; removed = 0; put = [] }

-- Buffers of the same lengths, and the same limit.
pub record SameLent (a b : Lent) : Type 0 where
  pub tree : length a.tree ≡ length b.tree
  pub messages : length a.messages ≡ length b.messages
  -- What they hold may differ.
  pub work : length a.work ≡ length b.work
  pub limit : a.limit ≡ b.limit

-- ANSWERED AS ASKED: the same is told, and the tree's words or the messages' are the same.
pub record AsAsked (asked committed : Left) : Type 0 where
  pub told : committed.told ≡ asked.told
  pub tree : (nodes : ℕ) → asked.told ≡ a_tree nodes → take (7 * nodes) committed.tree ≡ take (7 * nodes) asked.tree
  pub messages : (records : ℕ) → asked.told ≡ some_messages records
      → take (8 * records) committed.messages ≡ take (8 * records) asked.messages
