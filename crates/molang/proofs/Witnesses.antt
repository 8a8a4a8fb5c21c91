-- THE PREMISES CAN BE MET: calls that meet what demand 3 (`CanReadBack`), a lift (`CanLift`) and card 6 ask, computed. All begin with one
-- script that has what a narrower premise would leave out: a host's leaf, the author's bracket, `sin ( )`, a start above its end, payloads
-- on both semicolons, no word of a buffer to spare, two source lengths, of which the second is below the spans, two versions, two limits.
-- A premise that is added to one of the records has no proof here.
use Prim.Native.Nat.{ℕ, ◌+◌, ◌*◌, ◌/◌, ◌≤◌}
use mathlib.Core.{Path.{◌≡◌, refl, subst}, Bool.{true}, List.{List, [], ◌∷◌, ◌++◌}, Option.{none, some}}
use lib.{Dec.{leb→le, ltb→lt}, IntN.{ℤ, pos}, ListN.{length, take, drop, replicate}}
use Rattle.molang.specs.{Forest.{Token, Forest, nil, node}, Read.{Answer, tree, messages}, Words.{operator_field, token_words, list_words, node_words_of, tree_words, tokens_of}}
use Rattle.molang.specs.{Nesting.{too_deep}, Parse.{is_limit, refusal, reading, most_tokens}, Plain.{unplain_at}}
use Rattle.molang.specs.{Rules.{RuleCall, rule_refusal}, Write.{written_tree}, WriteEntry.{WriteCall, tree_fault}}
use Rattle.molang.specs.Reread.{Rereading, exact_call, two_trees, reread, Lift, CanLift, CanReadBack, HasReadBack}
use Rattle.molang.specs.Reread.{by_way_of, EachCanLift}
use Rattle.molang.specs.Payloads.{PayloadApart, one_payload, with_list, ruled_with_list, Reach, RuleReach, WriteReach, with_tree}
use Rattle.molang.specs.Payloads.{RereadReach, reread_with_list, first_nodes, tokens_between}
use Rattle.molang.proofs.{Computed.{computed}, Reread.{demand-3}, Payloads.{one_name, one-name-ruled, one-node}, PayloadChain.{one-name-on}}

-- ---- The script

-- A token without a payload, and one with.
abbrev at : ℕ → ℕ → Token
at o i = record { op = o; variant = 0; value = 0; start = i; end = i + 1; close = i + 1 }

abbrev named : ℕ → ℕ → ℕ → ℕ → ℕ → Token
named o variant value start end = record { op = o; variant = variant; value = value; start = start; end = end; close = end }

-- `v = ( a + 300 ) * sin ( ) ; return a ;`, of 15 tokens, the sixth the host's, of a payload variant and a value.
abbrev before : List Token
before = named 44 5 1 0 1 ∷ at 71 1 ∷ at 4 2 ∷ named 61 1 1065353216 9 3 ∷ at 9 4 ∷ []

abbrev host : ℕ → ℕ → Token
host variant value = named 300 variant value 5 6

abbrev behind : List Token
behind =
    at 5 6 ∷ at 31 7 ∷ at 36 8 ∷ at 4 9 ∷ at 5 10 ∷ named 73 3 70000 11 12 ∷ at 74 12 ∷ at 61 13 ∷ named 73 12 7 14 15 ∷ []

abbrev script : ℕ → ℕ → List ℕ
script variant value = list_words (before ++ (host variant value ∷ behind))

-- It is read at 4 under a limit of 1; its 19 written tokens are read at 6 under a limit of 3. Every buffer is as long as the table asks.
abbrev call : Rereading
call =
    record {
      first = exact_call (script 12 70001) (replicate 315 1) (replicate 16 2) (replicate 1280 3) 15 (pos 4) 1;
      written = replicate 95 4;
      again = replicate 399 5;
      source_length = 2;
      version = pos 6;
      limit = 3;
    }

-- The tree that is read.
root_of : Answer → Token
root_of (tree k cs) = k
root_of (messages ms) = at 0 0

below_of : Answer → Forest
below_of (tree k cs) = cs
below_of (messages ms) = nil

root : Token
root = root_of (reading call.first)

below : Forest
below = below_of (reading call.first)

-- ---- Demand 3

accepted : refusal call.first ≡ none
unfolding computed
accepted = refl

reads : reading call.first ≡ tree root below
unfolding computed root below root_of below_of
reads = refl

plain : unplain_at root below ≡ none
unfolding computed root below root_of below_of
plain = refl

-- The written list has 19 tokens, and the buffers have not a word more than it needs.
few : length (written_tree root below) ≤ most_tokens
unfolding computed root below root_of below_of
few = leb→le _ _ tt

list-room : 5 * length (written_tree root below) ≤ length call.written
unfolding computed root below root_of below_of
list-room = leb→le _ _ tt

tree-room : 21 * length (written_tree root below) ≤ length call.again
unfolding computed root below root_of below_of
tree-room = leb→le _ _ tt

work-room : 64 * length (written_tree root below) + 64 ≤ length call.first.work
unfolding computed root below root_of below_of
work-room = leb→le _ _ tt

legal-length : call.source_length ≤ 536870911
legal-length = leb→le _ _ tt

legal-limit : is_limit call.limit ≡ true
unfolding computed
legal-limit = refl

within-limit : too_deep call.limit (written_tree root below) ≡ none
unfolding computed root below root_of below_of
within-limit = refl

-- The premises of demand 3, and what it then says of the call.
can-read-back : CanReadBack call root below
can-read-back =
    search (accepted, reads, plain, few, list-room, tree-room, work-room, legal-length, legal-limit, within-limit)

read_back : HasReadBack root below (reread call)
read_back = (demand-3 call).reads_back root below can-read-back

told-both : (reread call).told ≡ two_trees 14 19 16
unfolding computed
told-both = refl

-- ---- Lifts

-- The list that is written, and a lift of it without a word to spare, at a source length, a version and a limit.
list : List ℕ
list = list_words (written_tree root below)

abbrev lift : ℕ → ℤ → ℕ → Lift
lift source_length version limit =
    record {
      tree = replicate 399 1;
      messages = replicate 16 2;
      work = replicate 1280 3;
      written = replicate 95 4;
      source_length = source_length;
      version = version;
      limit = limit;
    }

module _ (source_length : ℕ) (version : ℤ) (limit : ℕ) where
  lift-tree : 21 * (length list / 5) ≤ length (lift source_length version limit).tree
  unfolding computed root below root_of below_of list
  lift-tree = leb→le _ _ tt

  lift-messages : 16 ≤ length (lift source_length version limit).messages
  lift-messages = leb→le _ _ tt

  lift-work : 64 * (length list / 5) + 64 ≤ length (lift source_length version limit).work
  unfolding computed root below root_of below_of list
  lift-work = leb→le _ _ tt

  lift-list : length list ≤ length (lift source_length version limit).written
  unfolding computed root below root_of below_of list
  lift-list = leb→le _ _ tt

  -- The premises of a lift, of each that has a legal length and a limit that the list is within.
  can-lift : source_length ≤ 536870911 → is_limit limit ≡ true → too_deep limit (tokens_of list) ≡ none
      → CanLift list (lift source_length version limit)
  can-lift length-is limit_is within = search (lift-tree, lift-messages, lift-work, lift-list)

-- Two lifts that differ in all three.
near : CanLift list (lift 0 (pos 5) 3)
unfolding computed root below root_of below_of list
near = can-lift 0 (pos 5) 3 (leb→le _ _ tt) refl refl

far : CanLift list (lift 536870911 (pos 0) 4096)
unfolding computed root below root_of below_of list
far = can-lift 536870911 (pos 0) 4096 (leb→le _ _ tt) refl refl

-- What card 12 then says of them.
any_way_lem : by_way_of (lift 0 (pos 5) 3 ∷ lift 536870911 (pos 0) 4096 ∷ []) list ≡ some list
unfolding list
any_way_lem =
    subst (λ (ws : List ℕ). EachCanLift ws (lift 0 (pos 5) 3 ∷ lift 536870911 (pos 0) 4096 ∷ [])
    → by_way_of (lift 0 (pos 5) 3 ∷ lift 536870911 (pos 0) 4096 ∷ []) ws ≡ some ws)
    read_back.listed (read_back.lifts.any_way (lift 0 (pos 5) 3 ∷ lift 536870911 (pos 0) 4096 ∷ [])) (near, (far, tt))

-- ---- One name (card 6)

-- The same script with another payload variant and value of the host.
abbrev other : List ℕ
other = script 2 9

other-accepted : refusal (with_list call.first other) ≡ none
unfolding computed
other-accepted = refl

apart : PayloadApart 5 15 call.first.list other
unfolding computed
apart =
    one_payload 5 (ltb→lt _ _ tt)
    (record {
      front = list_words before;
      item = token_words (host 12 70001);
      other = token_words (host 2 9);
      behind = list_words behind;
      first = refl;
      second = refl;
      index = refl;
      wide = refl;
      alike = refl;
    })

-- What card 6 says of reading the two, of reading them with a rule buffer, and of reading, writing and reading again.
reached : Reach call.first (with_list call.first other)
reached = one_name call.first other accepted other-accepted apart

abbrev ruled : RuleCall
ruled = record { call = call.first; rules = replicate 45 6 }

ruled-accepted : rule_refusal ruled ≡ none
unfolding computed
ruled-accepted = refl

other-ruled : rule_refusal (ruled_with_list ruled other) ≡ none
unfolding computed
other-ruled = refl

rules-reached : RuleReach ruled (ruled_with_list ruled other)
rules-reached = one-name-ruled ruled other ruled-accepted other-ruled apart

reread-reached : RereadReach (first_nodes call) (tokens_between call) (reread call) (reread (reread_with_list call other))
reread-reached = one-name-on call other accepted other-accepted apart

-- The trees of the two: the host is node 8 of 14. What card 6 says of writing them.
tree_of : List ℕ → List ℕ
tree_of words = let a = reading (with_list call.first words) in tree_words (node (root_of a) (below_of a) nil)

abbrev written : WriteCall
written = record { tree = tree_of call.first.list; list = replicate 95 4 }

tree-passes : tree_fault 0 operator_field 0 (record { called = 1; begun = 0 }) written.tree ≡ none
unfolding computed tree_of root_of below_of
tree-passes = refl

other-passes : tree_fault 0 operator_field 0 (record { called = 1; begun = 0 }) (tree_of other) ≡ none
unfolding computed tree_of root_of below_of
other-passes = refl

trees-apart : PayloadApart 7 14 written.tree (tree_of other)
unfolding computed tree_of root_of below_of
trees-apart =
    one_payload 8 (ltb→lt _ _ tt)
    (record {
      front = take 56 (tree_of other);
      item = node_words_of (host 12 70001) 0;
      other = node_words_of (host 2 9) 0;
      behind = drop 63 (tree_of other);
      first = refl;
      second = refl;
      index = refl;
      wide = refl;
      alike = refl;
    })

writing-reached : WriteReach written (with_tree written (tree_of other))
writing-reached = one-node written (tree_of other) tree-passes other-passes trees-apart
