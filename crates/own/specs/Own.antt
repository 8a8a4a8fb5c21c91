-- A list read at its own used set (document 01, end of 'Lists and their trees'): each operator of its tokens is in the set and no other,
-- and the source length is its highest span end.
use Rattle.std.specs.Prelude.{ℕ, ◌+◌, ◌*◌, ◌/◌, ◌%◌, ◌^◌, ◌≤◌, ◌≡◌, List, ℤ, length}
use Rattle.molang.specs.Words.{operator_field, tokens_of}
use Rattle.molang.specs.Read.{Answer, read, set_number}
use Rattle.molang.specs.Parse.{Call}
use Rattle.derived.specs.Derived.{named, highest}

-- The call of the entry for a list with exactly the operators that its words name.
unfoldable pub named_call : List ℕ → List ℕ → List ℕ → List ℕ → ℕ → ℤ → ℕ → Call
named_call list tree messages work source_length version limit =
    let used = set_number (named operator_field list) 111 in
    record {
      list = list;
      tree = tree;
      messages = messages;
      work = work;
      source_length = source_length;
      version = version;
      used_low = used % 2 ^ 64;
      used_high = used / 2 ^ 64;
      limit = limit;
    }

-- A LIST'S OWN CALL: so, its highest span end being the source length.
unfoldable pub own_call : List ℕ → List ℕ → List ℕ → List ℕ → ℤ → ℕ → Call
own_call list tree messages work version limit = named_call list tree messages work (highest operator_field 0 list) version limit

-- The reading of a list at its exact used set, its highest span end being the source length.
unfoldable pub reading_of : List ℕ → ℤ → Answer
reading_of list version = read (tokens_of list) (named operator_field list) version (highest operator_field 0 list)

-- A list of at most 128 tokens, and buffers that are long enough for it.
pub record Readable (list tree messages work : List ℕ) : Type 0 where
  pub few : length list ≤ 640
  pub whole : length list % 5 ≡ 0
  pub tree_room : 21 * (length list / 5) ≤ length tree
  pub message_room : 16 ≤ length messages
  pub work_room : 64 * (length list / 5) + 64 ≤ length work
