-- The hosts' operators (document 02, card 7): "A list with them reads as it would at the same used set with 76 in their stead, their number
-- kept wherever the answer names it." Neither reading nor writing uses this file: it states that promise of both reading entries.
use Rattle.std.specs.Prelude.{ℕ, ◌+◌, ◌-◌, ◌*◌, ◌≡◌, Bool, true, false, ◌&&◌, ◌||◌, List, [], ◌∷◌, map, eqb, take}
use Rattle.molang.specs.Operator.{this, is_host}
use Rattle.molang.specs.Forest.{Token, Forest, nil, node}
use Rattle.molang.specs.Read.{tree}
use Rattle.molang.specs.Words.{kind_of, low_of, operator_bits, number_in, tokens_of}
use Rattle.molang.specs.Parse.{Call, reading, Told, a_tree, some_messages, refused, in_front}
use Rattle.molang.specs.Left.{Left}
use Rattle.molang.specs.WriteEntry.{trees_of, WriteCall, written_tokens, tokens, write_answered}

-- A word of kind 1 whose number is a host's.
unfoldable pub is_host_word : ℕ → Bool
is_host_word w = eqb (kind_of w) 1 && is_host (number_in (low_of w))

-- The word with 76 put in for a host's number, its other bits as they were; any other word as it was.
unfoldable pub with_this_word : ℕ → ℕ
with_this_word w = elim (is_host_word w) [ true ↦ w - operator_bits (number_in (low_of w)) 0 + operator_bits this 0 | false ↦ w ]

-- The same call with 76 put in for each host of its list.
unfoldable pub hostless : Call → Call
hostless c =
    record {
      list = map with_this_word c.list;
      tree = c.tree;
      messages = c.messages;
      work = c.work;
      source_length = c.source_length;
      version = c.version;
      used_low = c.used_low;
      used_high = c.used_high;
      limit = c.limit;
    }

-- How many words of the tree buffer are the tree's, by what the caller is told.
unfoldable pub tree_told : Told → ℕ
tree_told (a_tree nodes) = 7 * nodes
tree_told (some_messages records) = 0
tree_told (refused number place) = 0

-- 76 or a host's number.
unfoldable pub is_this_or_host : ℕ → Bool
is_this_or_host n = eqb n this || is_host n

-- The tokens r, behind the token k if that has 76 or a host's number.
unfoldable pub host_before : Token → List Token → List Token
host_before k r = elim (is_this_or_host k.op) [ true ↦ k ∷ r | false ↦ r ]

-- The tokens of a list with these numbers, in list order.
unfoldable pub host_tokens : List Token → List Token
host_tokens [] = []
host_tokens (k ∷ ks) = host_before k (host_tokens ks)

-- The nodes of trees with these numbers, in tree order, before the tokens r.
unfoldable pub host_nodes : Forest → List Token → List Token
host_nodes nil r = r
host_nodes (node k cs rest) r = host_before k (host_nodes cs (host_nodes rest r))

-- A CALL READS AS WITH 76 IN THE HOSTS' STEAD, by what the call c comes to, and what it comes to with 76: it is turned back alike, answers
-- alike, and leaves the same messages, work and rule bytes. The call with 76 leaves the same tree with 76 put in, and the rest of the tree
-- buffer as it was. And the numbers are kept: the nodes with 76 and with hosts' numbers, in tree order, are the tokens with these numbers,
-- in list order.
pub record ReadsAsThis (c : Call) (here there : Left) : Type 0 where
  pub same_refusal : there.turned ≡ here.turned
  pub same_answer : there.told ≡ here.told
  pub same_messages : there.messages ≡ here.messages
  pub same_work : there.work ≡ here.work
  pub same_rules : there.rules ≡ here.rules
  pub tree_with_this : there.tree ≡ in_front (map with_this_word (take (tree_told here.told) here.tree)) c.tree
  pub numbers_kept : (k : Token) (cs : Forest) → reading c ≡ tree k cs → host_nodes (node k cs nil) [] ≡ host_tokens (tokens_of c.list)

-- THE WRITTEN LIST KEEPS THEM: if a call of the writer answers a token count, the written tokens with 76 and with hosts' numbers, in list
-- order, are the nodes with these numbers of the tree that it was given, in tree order.
abbrev pub WritesHosts : WriteCall → Type 0
WritesHosts w =
    (count : ℕ) → write_answered w ≡ tokens count → host_tokens (written_tokens (trees_of w.tree)) ≡ host_nodes (trees_of w.tree) []
