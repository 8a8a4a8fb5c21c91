-- The lift of a list over lent buffers (molang's `Lift` says what becomes of the list): its calls of the reader and the writer, what its
-- caller is told, and what each lent buffer holds after it. It reads twice and writes once; what a reading of the written list would give,
-- the theorems say.
use Rattle.std.specs.Prelude.{ℕ, ◌*◌, ◌<◌, min, ◌≡◌, Bool, true, false, List, length, take}
use Rattle.std.proofs.Math.Option.{Option, none, some}
use Rattle.molang.specs.Words.{Refusal}
use Rattle.molang.specs.Parse.{Call, is_limit, Told, a_tree, some_messages, refused, answered, tree_after, messages_after, work_after}
use Rattle.molang.specs.WriteEntry.{WriteCall, WriteTold, tokens, unwritten, write_answered, list_after}
use Rattle.molang.specs.Forest.{Token, Forest}
use Rattle.molang.specs.Read.{tree as Answer·tree}
use Rattle.molang.specs.Plain.{unplain_at}
use Rattle.molang.specs.Write.{written_tree}
use Rattle.molang.specs.Lift.{Engine, eq_words, own_reading, same, lifted, behind, lift_of}
use Rattle.accept.specs.Accepting.{Verdict, is_read, is_refused, verdict, length_refusal, nesting_refusal}
use Rattle.own.specs.Own.{own_call}

-- ---- What is lent, and the calls

-- What the lift is lent and given: the list, a tree buffer for each reading, the messages and work of both, the output, and two engines.
pub record LiftCall : Type 0 where
  pub list : List ℕ
  pub tree : List ℕ
  pub again : List ℕ
  pub messages : List ℕ
  pub work : List ℕ
  pub output : List ℕ
  pub from : Engine
  pub to : Engine

-- Answers 1 to 5 of the table: each of the two tree buffers must be long enough.
unfoldable pub room_refusal : LiftCall → Option Refusal
room_refusal c =
    length_refusal c.list
    (record {
      tree = min (length c.tree) (length c.again);
      messages = length c.messages;
      work = length c.work;
      source = 0;
    })

-- The limit of the first reading: answer 17 speaks of both limits, so it is none if the new one is none.
unfoldable pub first_limit : ℕ → ℕ → ℕ
first_limit from to = elim (is_limit to) [ true ↦ from | false ↦ 0 ]

-- The first reading, at the old engine.
unfoldable pub first_call : LiftCall → Call
first_call c = own_call c.list c.tree c.messages c.work c.from.version (first_limit c.from.limit c.to.limit)

-- What the first reading hands on: each buffer as it is then, and the new engine.
pub record Handed : Type 0 where
  pub list : List ℕ
  pub tree : List ℕ
  pub again : List ℕ
  pub messages : List ℕ
  pub work : List ℕ
  pub output : List ℕ
  pub to : Engine

-- Nobody else writes a buffer in between.
unfoldable pub handed : LiftCall → Handed
handed c =
    record {
      list = c.list;
      tree = tree_after (first_call c);
      again = c.again;
      messages = messages_after (first_call c);
      work = work_after (first_call c);
      output = c.output;
      to = c.to;
    }

-- The second reading, at the new engine.
unfoldable pub second_call : Handed → Call
second_call h = own_call h.list h.again h.messages h.work h.to.version h.to.limit

-- The writer gets the tree of so many nodes as the first reading gave it.
unfoldable pub writer_call : List ℕ → List ℕ → ℕ → WriteCall
writer_call tree output nodes = record { tree = take (7 * nodes) tree; list = output }

-- ---- What is told and left

-- What the caller is told: the list stays, with the nodes of its tree; so many tokens came out; the old engine has so many messages; or the
-- list stays behind, with number and place.
pub data LiftTold : Type 0 where
  stays_same comes_out has_messages : ℕ → LiftTold
  stays_behind : ℕ → ℕ → LiftTold

-- What is told, and what the output holds.
pub record OutputLeft : Type 0 where
  pub told : LiftTold
  pub output : List ℕ

-- By whether what was written is within the limit.
abbrev pub held_told : ℕ → Verdict → LiftTold
held_told count (is_read n) = comes_out count
held_told count (is_refused number place) = stays_behind number place

-- By the writer's answer: it was turned back, or what it wrote must be within the new limit.
unfoldable pub after_writing : ℕ → WriteCall → WriteTold → OutputLeft
after_writing limit w (tokens count) =
    record { told = held_told count (verdict count (nesting_refusal limit (take (5 * count) (list_after w)))); output = list_after w }
after_writing limit w (unwritten number place) = record { told = stays_behind number place; output = w.list }

-- The tree is written.
unfoldable pub written_out : List ℕ → List ℕ → ℕ → ℕ → OutputLeft
written_out tree output limit nodes = let w = writer_call tree output nodes in after_writing limit w (write_answered w)

-- Both readings gave a tree, every word equal.
unfoldable pub same_told : ℕ → Told → List ℕ → List ℕ → Bool
same_told nodes (a_tree m) tree again = eq_words (take (7 * nodes) tree) (take (7 * m) again)
same_told nodes (some_messages records) tree again = false
same_told nodes (refused number place) tree again = false

-- By whether they did.
unfoldable pub or_written_out : Bool → List ℕ → List ℕ → ℕ → ℕ → OutputLeft
or_written_out true tree output limit nodes = record { told = stays_same nodes; output = output }
or_written_out false tree output limit nodes = written_out tree output limit nodes

-- By the second reading's answer, after a first tree of so many nodes.
unfoldable pub after_second : List ℕ → List ℕ → List ℕ → ℕ → ℕ → Told → OutputLeft
after_second tree again output limit nodes (refused number place) = record { told = stays_behind number place; output = output }
after_second tree again output limit nodes (some_messages records) = written_out tree output limit nodes
after_second tree again output limit nodes (a_tree m) =
    or_written_out (same_told nodes (a_tree m) tree again) tree output limit nodes

-- What is told, and what each buffer holds that can change after the first reading.
pub record LiftLeft : Type 0 where
  pub told : LiftTold
  pub again : List ℕ
  pub messages : List ℕ
  pub work : List ℕ
  pub output : List ℕ

-- No further call is made.
unfoldable pub stopped : Handed → LiftTold → LiftLeft
stopped h told = record { told = told; again = h.again; messages = h.messages; work = h.work; output = h.output }

-- By the first reading's answer.
unfoldable pub after_first : Handed → Told → LiftLeft
after_first h (refused number place) = stopped h (stays_behind number place)
after_first h (some_messages records) = stopped h (has_messages records)
after_first h (a_tree nodes) =
    let second = second_call h in
    let out = after_second h.tree (tree_after second) h.output h.to.limit nodes (answered second) in
    record {
      told = out.told;
      again = tree_after second;
      messages = messages_after second;
      work = work_after second;
      output = out.output;
    }

-- A call that is turned back for its lengths changes nothing.
unfoldable pub unread : LiftCall → Handed
unread c =
    record {
      list = c.list;
      tree = c.tree;
      again = c.again;
      messages = c.messages;
      work = c.work;
      output = c.output;
      to = c.to;
    }

-- By rows 1 to 5.
unfoldable pub by_room : Option Refusal → LiftCall → LiftLeft
by_room (some r) c = stopped (unread c) (stays_behind r.number r.place)
by_room none c = after_first (handed c) (answered (first_call c))

-- WHAT THE LIFT COMES TO, and what each lent buffer but the first tree's holds after it.
unfoldable pub lift_left : LiftCall → LiftLeft
lift_left c = by_room (room_refusal c) c

-- The first tree's buffer, by rows 1 to 5.
unfoldable pub tree_by : Option Refusal → LiftCall → List ℕ
tree_by (some r) c = c.tree
tree_by none c = tree_after (first_call c)

-- THE FIRST TREE'S BUFFER after it.
unfoldable pub tree_left : LiftCall → List ℕ
tree_left c = tree_by (room_refusal c) c

-- ---- What that is

-- EVERY CALL ENDS IN ONE OF THESE WAYS: it is turned back for its lengths, its output is too short for what is written (15), or what is
-- told, and what stands in the output where a list came out, is the definition's lift.
pub data IsLift (c : LiftCall) (told : LiftTold) (output : List ℕ) : Type 0 where
  of_lengths : {r : Refusal} → room_refusal c ≡ some r → told ≡ stays_behind r.number r.place → IsLift c told output
  of_output : {k : Token} {cs : Forest} → own_reading c.from.version c.list ≡ Answer·tree k cs → unplain_at k cs ≡ none
      → length c.output < 5 * length (written_tree k cs) → told ≡ stays_behind 15 0 → IsLift c told output
  is_same : {nodes : ℕ} → lift_of c.from c.to c.list ≡ same → told ≡ stays_same nodes → IsLift c told output
  is_lifted : {count : ℕ} → lift_of c.from c.to c.list ≡ lifted (take (5 * count) output) → told ≡ comes_out count
      → IsLift c told output
  is_messages : {records : ℕ} → lift_of c.from c.to c.list ≡ behind 0 records → told ≡ has_messages records → IsLift c told output
  is_behind : {number place : ℕ} → lift_of c.from c.to c.list ≡ behind number place → told ≡ stays_behind number place
      → IsLift c told output
