-- Demand 3 (document 01, 'Demand 3 joins three calls'): a list is read, its tree is written, and exactly the tokens written are read
-- again. First the function that makes the three calls: what it is lent, what its caller is told and what it leaves in each lent buffer.
-- Then further lifts of a written list (document 02, card 12), and the demand itself.
use Rattle.std.specs.Prelude.{ℕ, ◌+◌, ◌*◌, ◌/◌, ◌%◌, ◌^◌, ◌≤◌, ◌≡◌, true, false, List, [], ◌∷◌, ℤ, length, take}
use Rattle.std.proofs.Math.Option.{Option, none, some}
use Rattle.molang.specs.Forest.{Token, Forest, nil, node, size}
use Rattle.molang.specs.Read.{tree, uses, set_number}
use Rattle.molang.specs.Words.{tokens_of, list_words, tree_words}
use Rattle.molang.specs.Nesting.{too_deep}
use Rattle.molang.specs.Parse.{Call, most_tokens, is_limit, refusal, reading, Told, a_tree, some_messages, refused, answered, tree_after}
use Rattle.molang.specs.Parse.{messages_after, work_after}
use Rattle.molang.specs.Plain.{unplain_at}
use Rattle.molang.specs.Write.{written_tree, taken_away, comparable}
use Rattle.molang.specs.WriteEntry.{trees_of, WriteCall, WriteTold, tokens, unwritten, write_answered, list_after}

-- ---- The three calls

-- What the function is lent and given: the first reading's call, the list to write, and the second reading's tree buffer, source length,
-- version and nesting limit. Messages and work are lent once, for both readings.
pub record Rereading : Type 0 where
  pub first : Call
  pub written : List ℕ
  pub again : List ℕ
  pub source_length : ℕ
  pub version : ℤ
  pub limit : ℕ

-- What the first reading hands on: each buffer as it is then, and the second reading's source length, version and nesting limit.
pub record Handed : Type 0 where
  pub tree : List ℕ
  pub written : List ℕ
  pub again : List ℕ
  pub messages : List ℕ
  pub work : List ℕ
  pub source_length : ℕ
  pub version : ℤ
  pub limit : ℕ

-- Nobody else writes a buffer in between.
unfoldable pub handed : Rereading → Handed
handed c =
    record {
      tree = tree_after c.first;
      written = c.written;
      again = c.again;
      messages = messages_after c.first;
      work = work_after c.first;
      source_length = c.source_length;
      version = c.version;
      limit = c.limit;
    }

-- The writer gets the tree of so many nodes as the first reading gave it.
unfoldable pub writer_call : Handed → ℕ → WriteCall
writer_call h nodes = record { tree = take (7 * nodes) h.tree; list = h.written }

-- The call that reads a list with each operator of its tokens and no other; hosts have no bit in the set.
unfoldable pub exact_call : List ℕ → List ℕ → List ℕ → List ℕ → ℕ → ℤ → ℕ → Call
exact_call list again messages work source_length version limit =
    let used = set_number (uses (tokens_of list)) 111 in
    record {
      list = list;
      tree = again;
      messages = messages;
      work = work;
      source_length = source_length;
      version = version;
      used_low = used % 2 ^ 64;
      used_high = used / 2 ^ 64;
      limit = limit;
    }

-- The second reading gets exactly the tokens written, of which there are `count`.
unfoldable pub second_call : Handed → ℕ → ℕ → Call
second_call h nodes count =
    exact_call (take (5 * count) (list_after (writer_call h nodes))) h.again h.messages h.work h.source_length h.version
    h.limit

-- ---- What is told and left

-- What the caller is told: the node counts of both trees with the token count between them; messages of the first or of the second
-- reading; or which call was turned back, 1, 2 or 3, with number and place.
pub data RereadTold : Type 0 where
  two_trees : ℕ → ℕ → ℕ → RereadTold
  first_messages second_messages : ℕ → RereadTold
  turned_back : ℕ → ℕ → ℕ → RereadTold

-- What the caller is told, and what each lent buffer holds after the calls.
pub record RereadLeft : Type 0 where
  pub told : RereadTold
  pub tree : List ℕ
  pub written : List ℕ
  pub again : List ℕ
  pub messages : List ℕ
  pub work : List ℕ

-- No further call is made: the buffers are left as they were handed on.
unfoldable pub stopped : Handed → RereadTold → RereadLeft
stopped h told =
    record { told = told; tree = h.tree; written = h.written; again = h.again; messages = h.messages; work = h.work }

-- What the caller is told by the second reading's answer.
unfoldable pub second_told : ℕ → ℕ → Told → RereadTold
second_told nodes count (a_tree again) = two_trees nodes count again
second_told nodes count (some_messages records) = second_messages records
second_told nodes count (refused number place) = turned_back 3 number place

-- By the writer's answer: what it wrote is read, or it was turned back.
unfoldable pub after_writing : Handed → ℕ → WriteTold → RereadLeft
after_writing h nodes (tokens count) =
    let second = second_call h nodes count in
    record {
      told = second_told nodes count (answered second);
      tree = h.tree;
      written = list_after (writer_call h nodes);
      again = tree_after second;
      messages = messages_after second;
      work = work_after second;
    }
after_writing h nodes (unwritten number place) = stopped h (turned_back 2 number place)

-- By the first reading's answer: its tree is written, or there is none.
unfoldable pub after_first : Handed → Told → RereadLeft
after_first h (a_tree nodes) = after_writing h nodes (write_answered (writer_call h nodes))
after_first h (some_messages records) = stopped h (first_messages records)
after_first h (refused number place) = stopped h (turned_back 1 number place)

-- WHAT THE THREE CALLS COME TO.
unfoldable pub reread : Rereading → RereadLeft
reread c = after_first (handed c) (answered c.first)

-- ---- By way of other versions (document 02, card 12)

-- What a lift of a list is lent and given: the buffers, source length, version and nesting limit of its reading, and the list to write.
pub record Lift : Type 0 where
  pub tree : List ℕ
  pub messages : List ℕ
  pub work : List ℕ
  pub written : List ℕ
  pub source_length : ℕ
  pub version : ℤ
  pub limit : ℕ

-- The words that a writer wrote, by its answer; there are none where it was turned back.
unfoldable pub words_written : WriteCall → WriteTold → Option (List ℕ)
words_written w (tokens count) = some (take (5 * count) (list_after w))
words_written w (unwritten number place) = none

-- The words that are written of a tree's words into a lent list.
unfoldable pub words_of : List ℕ → List ℕ → Option (List ℕ)
words_of words list = let w : WriteCall = record { tree = words; list = list } in words_written w (write_answered w)

-- By the reading's answer: its tree is written, or there is none.
unfoldable pub lifted_by : Lift → Call → Told → Option (List ℕ)
lifted_by l reader (a_tree nodes) = words_of (take (7 * nodes) (tree_after reader)) l.written
lifted_by l reader (some_messages records) = none
lifted_by l reader (refused number place) = none

-- ONE LIFT of a list: it is read as demand 3's second reading is, with each operator of its tokens and no other, and its tree is written.
unfoldable pub lifted : Lift → List ℕ → Option (List ℕ)
lifted l list =
    let reader = exact_call list l.tree l.messages l.work l.source_length l.version l.limit in
    lifted_by l reader (answered reader)

-- BY WAY OF several lifts, each of which gets exactly what the one before wrote.
unfoldable pub by_way_of : List Lift → List ℕ → Option (List ℕ)
by_way_of [] list = some list
by_way_of (l ∷ ls) list = elim (lifted l list) [ some next ↦ by_way_of ls next | none ↦ none ]

-- What a lift of a written list asks: room by the table for its reading and for the list again, a legal source length and limit, and that
-- the list is within the limit.
pub record CanLift (list : List ℕ) (l : Lift) : Type 0 where
  pub tree_room : 21 * (length list / 5) ≤ length l.tree
  pub message_room : 16 ≤ length l.messages
  pub work_room : 64 * (length list / 5) + 64 ≤ length l.work
  -- And not a word more.
  pub list_room : length list ≤ length l.written
  pub legal_length : l.source_length ≤ 536870911
  pub legal_limit : is_limit l.limit ≡ true
  pub within_limit : too_deep l.limit (tokens_of list) ≡ none

-- Each of several lifts has that.
abbrev pub EachCanLift : List ℕ → List Lift → Type 0
EachCanLift list [] = Unit {0}
EachCanLift list (l ∷ ls) = CanLift list l × EachCanLift list ls

-- THE SAME LIST, WHICHEVER WAY: the tree's words are written as the list, into any list with room; a lift of the list, at whatever version,
-- gives it again, word for word; and any number of lifts give it.
pub record LiftsTo (tree list : List ℕ) : Type 0 where
  pub writes : (written : List ℕ) → length list ≤ length written → words_of tree written ≡ some list
  pub again : (l : Lift) → CanLift list l → lifted l list ≡ some list
  pub any_way : (ls : List Lift) → EachCanLift list ls → by_way_of ls list ≡ some list

-- ---- The demand

-- What is compared of a tree's words: with its brackets taken away, and in a script without the spans, payloads and closes of semicolons.
unfoldable pub bracketless : List ℕ → List ℕ
bracketless ws = tree_words (comparable (taken_away false (trees_of ws) nil))

-- What demand 3 asks of a call: the first reading is not turned back and gives the tree k over cs, which is plain; what is written of it
-- has at most 4,096 tokens and is within the second limit, and the lent buffers, the second source length and the second limit are such as
-- the table asks. (The first call asked for the message room.)
pub record CanReadBack (c : Rereading) (k : Token) (cs : Forest) : Type 0 where
  pub accepted : refusal c.first ≡ none
  pub reads : reading c.first ≡ tree k cs
  pub plain : unplain_at k cs ≡ none
  pub few : length (written_tree k cs) ≤ most_tokens
  pub list_room : 5 * length (written_tree k cs) ≤ length c.written
  pub tree_room : 21 * length (written_tree k cs) ≤ length c.again
  pub work_room : 64 * length (written_tree k cs) + 64 ≤ length c.first.work
  -- It need not be the first's.
  pub legal_length : c.source_length ≤ 536870911
  pub legal_limit : is_limit c.limit ≡ true
  pub within_limit : too_deep c.limit (written_tree k cs) ≡ none

-- What comes of it: both node counts and the token count are told, the list opens with what is written of the tree, with brackets taken
-- away the two trees have the same words in the same order, and the second lifts to the same list (card 12).
pub record HasReadBack (k : Token) (cs : Forest) (l : RereadLeft) : Type 0 where
  pub nodes_again : ℕ
  pub tells : l.told ≡ two_trees (size (node k cs nil)) (length (written_tree k cs)) nodes_again
  pub listed : take (5 * length (written_tree k cs)) l.written ≡ list_words (written_tree k cs)
  pub words : bracketless (take (7 * nodes_again) l.again) ≡ bracketless (take (7 * size (node k cs nil)) l.tree)
  pub lifts : LiftsTo (take (7 * nodes_again) l.again) (take (5 * length (written_tree k cs)) l.written)

-- DEMAND 3 OF A CALL, by what is told and left. Where the demand's premise holds, the tree reads back. Of every call: whenever two trees
-- are told, these have the same words with brackets taken away, and the second lifts to the list that was written of the first (card 12);
-- and no messages of the second reading are told.
pub record Demand3 (c : Rereading) (l : RereadLeft) : Type 0 where
  pub reads_back : (k : Token) (cs : Forest) → CanReadBack c k cs → HasReadBack k cs l
  pub agree : (nodes count nodes_again : ℕ) → l.told ≡ two_trees nodes count nodes_again
      → bracketless (take (7 * nodes_again) l.again) ≡ bracketless (take (7 * nodes) l.tree)
  pub lifts : (nodes count nodes_again : ℕ) → l.told ≡ two_trees nodes count nodes_again
      → LiftsTo (take (7 * nodes_again) l.again) (take (5 * count) l.written)
  pub no_messages : (records : ℕ) → l.told ≡ second_messages records → ⊥
