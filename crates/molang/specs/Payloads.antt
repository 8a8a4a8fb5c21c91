-- How far one name can reach (document 02, card 6): what it is for words to differ in one payload at most, for message records to differ in
-- one argument at most, and for calls to be told and left alike but for that. No function is bound by this: it is shown of the entries'
-- definitions, in `proofs/Payloads`.
use Rattle.std.specs.Prelude.{ℕ, ◌-◌, ◌*◌, ◌/◌, ◌%◌, ◌^◌, ◌≤◌, ◌<◌, ◌≡◌, true, false, ◌||◌, List, ◌∷◌, ◌++◌, map, eqb, length, take}
use Rattle.std.proofs.Math.Option.{Option, some}
use Rattle.molang.specs.Words.{kind_of}
use Rattle.molang.specs.Parse.{Call, Told, a_tree, some_messages, refused, answered, tree_after, messages_after, work_after}
use Rattle.molang.specs.Rules.{RuleCall, rule_answered, ruled_tree_after, ruled_messages_after, ruled_work_after, rules_after}
use Rattle.molang.specs.Left.{left}
use Rattle.molang.specs.WriteEntry.{WriteCall, WriteTold, tokens, unwritten, write_answered, list_after}
use Rattle.molang.specs.Reread.{Rereading, handed, writer_call, RereadTold, two_trees, first_messages, second_messages, turned_back}
use Rattle.molang.specs.Reread.{RereadLeft}

-- ---- Words and records

-- A word with its payload bits 0: bits 8-11 of a word of kind 1, bits 0-15 of one of kind 4 or 5.
unfoldable pub without_payload : ℕ → ℕ
without_payload w =
    elim (eqb (kind_of w) 1) [
      | true ↦ w - w / 2 ^ 8 % 2 ^ 4 * 2 ^ 8
      | false ↦ elim (eqb (kind_of w) 4 || eqb (kind_of w) 5) [ true ↦ w - w % 2 ^ 16 | false ↦ w ]
    ]

-- Two word lists that differ in one item of `width` words, a token or a node, with `at` items before it: the same words in front, the two
-- items, which differ in payload bits only, and the same words behind.
pub record PayloadAt (width at : ℕ) (xs ys : List ℕ) : Type 0 where
  pub front : List ℕ
  pub item : List ℕ
  pub other : List ℕ
  pub behind : List ℕ
  pub first : xs ≡ front ++ (item ++ behind)
  pub second : ys ≡ front ++ (other ++ behind)
  pub index : length front ≡ width * at
  pub wide : length item ≡ width
  pub alike : map without_payload other ≡ map without_payload item

-- WORDS APART IN ONE PAYLOAD AT MOST: all are equal, or one of the first `items` items differs, in its payload bits only.
pub data PayloadApart (width items : ℕ) (xs ys : List ℕ) : Type 0 where
  equal_words : ys ≡ xs → PayloadApart width items xs ys
  one_payload : (at : ℕ) → at < items → PayloadAt width at xs ys → PayloadApart width items xs ys

-- Two word lists that differ in one word, with `at` words before it.
pub record WordAt (at : ℕ) (xs ys : List ℕ) : Type 0 where
  pub front : List ℕ
  pub word : ℕ
  pub other : ℕ
  pub behind : List ℕ
  pub first : xs ≡ front ++ (word ∷ behind)
  pub second : ys ≡ front ++ (other ∷ behind)
  pub index : length front ≡ at

-- RECORDS APART IN ONE ARGUMENT AT MOST: all words are equal, or one word differs, in one of the first `records` records of eight words and
-- there among the five arguments, which stand after number, span start and span end.
pub data ArgumentApart (records : ℕ) (xs ys : List ℕ) : Type 0 where
  equal_records : ys ≡ xs → ArgumentApart records xs ys
  one_argument : (at : ℕ) → at < 8 * records → 3 ≤ at % 8 → WordAt at xs ys → ArgumentApart records xs ys

-- ---- The parse entry

-- The same call with another list.
unfoldable pub with_list : Call → List ℕ → Call
with_list c list =
    record {
      list = list;
      tree = c.tree;
      messages = c.messages;
      work = c.work;
      source_length = c.source_length;
      version = c.version;
      used_low = c.used_low;
      used_high = c.used_high;
      limit = c.limit;
    }

-- The nodes that are told of, 0 where no tree is told.
unfoldable pub nodes_told : Told → ℕ
nodes_told (a_tree nodes) = nodes
nodes_told (some_messages records) = 0
nodes_told (refused number place) = 0

-- The message records that are told of.
unfoldable pub records_told : Told → ℕ
records_told (a_tree nodes) = 0
records_told (some_messages records) = records
records_told (refused number place) = 0

-- ONE NAME'S REACH: two calls are answered the same, a tree with as many nodes or as many messages. Their trees differ in one node at most,
-- and there in payload bits only; their messages differ in one argument at most; the rest of both buffers, and the work buffer, is equal.
pub record Reach (c d : Call) : Type 0 where
  pub answer : answered d ≡ answered c
  pub tree : PayloadApart 7 (nodes_told (answered c)) (tree_after c) (tree_after d)
  pub messages : ArgumentApart (records_told (answered c)) (messages_after c) (messages_after d)
  pub work : work_after d ≡ work_after c

-- The same call with a rule buffer, with another list.
unfoldable pub ruled_with_list : RuleCall → List ℕ → RuleCall
ruled_with_list c list = record { call = with_list c.call list; rules = c.rules }

-- The same of two calls with a rule buffer; the rule bytes are equal.
pub record RuleReach (c d : RuleCall) : Type 0 where
  pub answer : rule_answered d ≡ rule_answered c
  pub tree : PayloadApart 7 (nodes_told (rule_answered c)) (ruled_tree_after c) (ruled_tree_after d)
  pub messages : ArgumentApart (records_told (rule_answered c)) (ruled_messages_after c) (ruled_messages_after d)
  pub work : ruled_work_after d ≡ ruled_work_after c
  pub rules : rules_after d ≡ rules_after c

-- ---- The write entry

-- The same call with another tree.
unfoldable pub with_tree : WriteCall → List ℕ → WriteCall
with_tree c tree = record { tree = tree; list = c.list }

-- The tokens that are told of, 0 where the call is turned back.
unfoldable pub tokens_told : WriteTold → ℕ
tokens_told (tokens count) = count
tokens_told (unwritten number place) = 0

-- Two calls of the writer are answered the same, whatever that is, and the lists they leave differ in one token's payload at most.
pub record WriteReach (c d : WriteCall) : Type 0 where
  pub answer : write_answered d ≡ write_answered c
  pub list : PayloadApart 5 (tokens_told (write_answered c)) (list_after c) (list_after d)

-- ---- Reading, writing and reading again

-- The same three calls with another list for the first.
unfoldable pub reread_with_list : Rereading → List ℕ → Rereading
reread_with_list c list =
    record {
      first = with_list c.first list;
      written = c.written;
      again = c.again;
      source_length = c.source_length;
      version = c.version;
      limit = c.limit;
    }

-- The nodes of the first tree.
unfoldable pub first_nodes : Rereading → ℕ
first_nodes c = nodes_told (answered c.first)

-- The tokens that are written of it.
unfoldable pub tokens_between : Rereading → ℕ
tokens_between c = tokens_told (write_answered (writer_call (handed c) (first_nodes c)))

-- The nodes of the second tree, where one is told.
unfoldable pub nodes_again_told : RereadTold → ℕ
nodes_again_told (two_trees nodes count nodes_again) = nodes_again
nodes_again_told (first_messages records) = 0
nodes_again_told (second_messages records) = 0
nodes_again_told (turned_back call number place) = 0

-- The message records of either reading, where they are told.
unfoldable pub records_reread_told : RereadTold → ℕ
records_reread_told (two_trees nodes count nodes_again) = 0
records_reread_told (first_messages records) = records
records_reread_told (second_messages records) = records
records_reread_told (turned_back call number place) = 0

-- THE CHAIN: what two rereadings come to, list, tree, written list and tree again. The same is told; each tree, of which the first has
-- `nodes` nodes, differs in one node's payload at most, the written list of `count` tokens in one token's, messages in one argument.
pub record RereadReach (nodes count : ℕ) (a b : RereadLeft) : Type 0 where
  pub told : b.told ≡ a.told
  pub tree : PayloadApart 7 nodes a.tree b.tree
  pub written : PayloadApart 5 count a.written b.written
  pub again : PayloadApart 7 (nodes_again_told a.told) a.again b.again
  pub messages : ArgumentApart (records_reread_told a.told) a.messages b.messages
  pub work : b.work ≡ a.work

-- ---- Whatever the limit, and whatever was lent

-- Two calls at one version, used set and source length. Their limits and their buffers, and what these hold, may differ.
pub record AtOne (c d : Call) : Type 0 where
  pub version : d.version ≡ c.version
  pub used_low : d.used_low ≡ c.used_low
  pub used_high : d.used_high ≡ c.used_high
  pub source_length : d.source_length ≡ c.source_length

-- ONE NAME'S REACH BY THE ANSWER ALONE: two calls, of either reading entry, are told the same. The words of their trees, seven a node,
-- differ in one node's payload at most, the words of their messages, eight a record, in one argument; and if both have a rule buffer, the
-- rule bytes of the nodes are equal.
pub record FreeReach (one other : Option (List ℕ)) (c d : Call) : Type 0 where
  pub answer : (left other d).told ≡ (left one c).told
  pub tree : let n = nodes_told (left one c).told in
      PayloadApart 7 n (take (7 * n) (left one c).tree) (take (7 * n) (left other d).tree)
  pub messages : let n = records_told (left one c).told in
      ArgumentApart n (take (8 * n) (left one c).messages) (take (8 * n) (left other d).messages)
  pub rules : (first second : List ℕ) → one ≡ some first → other ≡ some second
      → let n = nodes_told (left one c).told in take n (left other d).rules ≡ take n (left one c).rules

-- The same from two trees to the lists that are written of them, five words a token.
pub record FreeWriteReach (c d : WriteCall) : Type 0 where
  pub answer : write_answered d ≡ write_answered c
  pub list : let n = tokens_told (write_answered c) in PayloadApart 5 n (take (5 * n) (list_after c)) (take (5 * n) (list_after d))
