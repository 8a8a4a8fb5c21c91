-- How far one name can reach by way of a tree and a written list: the three calls of demand 3, each of which gets what the one before left.
use Prim.Native.Nat.{ℕ, suc, ◌+◌, ◌-◌, ◌*◌, ◌%◌}
use native.Mathlib.{Nat.{mul-add, mul-suc}, Omega.{arith}}
use mathlib.Core.{Path.{◌≡◌, refl, ap, ◌∙◌}, List.{List, ◌++◌}, Option.{none}}
use lib.{ListN.{length, take}, Seq.{take-append-add}}
use Rattle.molang.specs.{Words.{operator_field}, Parse.{Call, refusal, Told, a_tree, some_messages, refused, answered, tree_after}}
use Rattle.molang.specs.WriteEntry.{tree_fault, WriteTold, tokens, unwritten, write_answered, list_after}
use Rattle.molang.specs.Reread.{Rereading, Handed, handed, writer_call, exact_call, second_call, RereadTold, first_messages, turned_back}
use Rattle.molang.specs.Reread.{stopped, second_told, after_writing, after_first, reread}
use Rattle.molang.specs.Payloads.{PayloadApart, equal_words, one_payload, ArgumentApart, equal_records, one_argument, with_list, nodes_told}
use Rattle.molang.specs.Payloads.{records_told, Reach, with_tree, tokens_told, WriteReach, reread_with_list, first_nodes, tokens_between}
use Rattle.molang.specs.Payloads.{nodes_again_told, records_reread_told, RereadReach}
use Rattle.molang.proofs.{HandedTree.{tree-front, tree-unfaulted, tree-of-told}, PayloadWords.{other-wide}}
use Rattle.molang.proofs.Reread.{Readable, written-readable}
use Rattle.molang.proofs.Payloads.{two-lists, uses-same, legal-words-reach, one_name, one-node}

-- The words of the items that are counted, alone.
pub take-apart : {width items : ℕ} {xs ys : List ℕ} → PayloadApart width items xs ys
    → PayloadApart width items (take (width * items) xs) (take (width * items) ys)
take-apart {width} {items} (equal_words e) = equal_words (ap (take (width * items)) e)
take-apart {width} {items} (one_payload at h p) =
    let rest = items - suc at in
    let whole : width * items ≡ width * at + (width * rest + width) =
    ap (λ (n : ℕ). width * n) (omega arith) ∙ (mul-add width at (suc rest) ∙ ap (λ (n : ℕ). width * at + n) (mul-suc width rest))
    in
    let cut : (item : List ℕ) → length item ≡ width
    → take (width * items) (p.front ++ (item ++ p.behind)) ≡ p.front ++ (item ++ take (width * rest) p.behind) =
    λ item n.
    let many : width * items ≡ length p.front + (length item + width * rest) = omega (arith, p.index) in
    ap (λ (m : ℕ). take m (p.front ++ (item ++ p.behind))) many
    ∙ (take-append-add p.front (item ++ p.behind) (length item + width * rest)
    ∙ ap (λ (l : List ℕ). p.front ++ l) (take-append-add item p.behind (width * rest)))
    in
    one_payload at h
    (record {
      front = p.front;
      item = p.item;
      other = p.other;
      behind = take (width * rest) p.behind;
      first = ap (take (width * items)) p.first ∙ cut p.item p.wide;
      second = ap (take (width * items)) p.second ∙ cut p.other (other-wide p);
      index = p.index;
      wide = p.wide;
      alike = p.alike;
    })

-- No records, no difference.
no-records : {xs ys : List ℕ} → ArgumentApart 0 xs ys → ys ≡ xs
no-records (equal_records e) = e
no-records (one_argument at h a p) = absurd (omega arith)

-- The tree that is handed to the writer gets no answer 12.
handed-unfaulted : (c : Call) (n : ℕ) → answered c ≡ a_tree n
    → tree_fault 0 operator_field 0 (record { called = 1; begun = 0 }) (take (7 * n) (tree_after c)) ≡ none
handed-unfaulted c n h =
    let t = tree-of-told c n h in
    let got = ap (λ (n : ℕ). take (7 * n) (tree_after c)) t.nodes ∙ tree-front t.parsed in
    rw got (tree-unfaulted t.parsed)

-- The second reading's counts, by what is told of all three calls.
again-nodes : (nodes count : ℕ) (t : Told) → nodes_again_told (second_told nodes count t) ≡ nodes_told t
unfolding nodes_again_told second_told nodes_told
again-nodes nodes count (a_tree n) = refl
again-nodes nodes count (some_messages n) = refl
again-nodes nodes count (refused n q) = refl

again-records : (nodes count : ℕ) (t : Told) → records_reread_told (second_told nodes count t) ≡ records_told t
unfolding records_reread_told second_told records_told
again-records nodes count (a_tree n) = refl
again-records nodes count (some_messages n) = refl
again-records nodes count (refused n q) = refl

-- What is handed on, with another tree.
abbrev other_tree : Handed → List ℕ → Handed
other_tree x ws =
    record {
      tree = ws;
      written = x.written;
      again = x.again;
      messages = x.messages;
      work = x.work;
      source_length = x.source_length;
      version = x.version;
      limit = x.limit;
    }

-- The writer's list, for the second reading.
abbrev written_list : Handed → ℕ → ℕ → List ℕ
written_list x n m = take (5 * m) (list_after (writer_call x n))

-- What is written is read again alike, whatever is told of it.
second-reach : (x : Handed) (ws : List ℕ) (n m : ℕ) → Readable (written_list x n m) m → Readable (written_list (other_tree x ws) n m) m
    → PayloadApart 5 m (written_list x n m) (written_list (other_tree x ws) n m)
    → Reach (second_call x n m) (second_call (other_tree x ws) n m)
unfolding second_call exact_call with_list
second-reach x ws n m r s p =
    let whole : length (written_list x n m) % 5 ≡ 0 = omega (arith, r.long) in
    let used = uses-same (two-lists (written_list x n m) (written_list (other_tree x ws) n m) r.legal s.legal whole p) in
    rw used (legal-words-reach (second_call x n m) (written_list (other_tree x ws) n m) r.legal s.legal whole p)

-- From two trees on, by the writer's answer.
from-trees : (x : Handed) (ws : List ℕ) (n : ℕ)
    → tree_fault 0 operator_field 0 (record { called = 1; begun = 0 }) (take (7 * n) x.tree) ≡ none
    → tree_fault 0 operator_field 0 (record { called = 1; begun = 0 }) (take (7 * n) ws) ≡ none
    → PayloadApart 7 n x.tree ws
    → ((m : ℕ) → write_answered (writer_call x n) ≡ tokens m → Readable (written_list x n m) m)
    → ((m : ℕ) → write_answered (writer_call (other_tree x ws) n) ≡ tokens m → Readable (written_list (other_tree x ws) n m) m)
    → RereadReach n (tokens_told (write_answered (writer_call x n))) (after_writing x n (write_answered (writer_call x n)))
    (after_writing (other_tree x ws) n (write_answered (writer_call (other_tree x ws) n)))
unfolding writer_call with_tree after_writing stopped tokens_told nodes_again_told records_reread_told
from-trees x ws n h g t r s =
    let w : WriteReach (writer_call x n) (writer_call (other_tree x ws) n) = one-node (writer_call x n) (take (7 * n) ws) h g (take-apart t) in
    rw w.answer (by (write_answered (writer_call x n)) refl w)
  where
    by : (o : WriteTold) → write_answered (writer_call x n) ≡ o → WriteReach (writer_call x n) (writer_call (other_tree x ws) n)
        → RereadReach n (tokens_told o) (after_writing x n o) (after_writing (other_tree x ws) n o)
    by (unwritten m q) e w =
        record { told = refl; tree = t; written = equal_words refl; again = equal_words refl; messages = equal_records refl; work = refl }
    by (tokens m) e w =
        let lists : PayloadApart 5 m (list_after (writer_call x n)) (list_after (writer_call (other_tree x ws) n)) = rw e at w.list in
        let again = second-reach x ws n m (r m e) (s m (w.answer ∙ e)) (take-apart lists) in
        let said = answered (second_call x n m) in
        record {
          told = ap (second_told n m) again.answer;
          tree = t;
          written = lists;
          again = rw (again-nodes n m said) again.tree;
          messages = rw (again-records n m said) again.messages;
          work = again.work;
        }

-- ONE NAME'S REACH THROUGH READING, WRITING AND READING AGAIN.
pub one-name-on : {items : ℕ} (c : Rereading) (list : List ℕ) → refusal c.first ≡ none → refusal (with_list c.first list) ≡ none
    → PayloadApart 5 items c.first.list list
    → RereadReach (first_nodes c) (tokens_between c) (reread c) (reread (reread_with_list c list))
unfolding reread reread_with_list first_nodes tokens_between after_first handed writer_call stopped nodes_told records_told records_reread_told
one-name-on c list h g p =
    let r = one_name c.first list h g p in
    rw r.answer (by (answered c.first) refl r)
  where
    -- No further call is made.
    stops : (t : Told) (said : RereadTold) (m : ℕ) → records_reread_told said ≡ records_told t → answered c.first ≡ t
        → Reach c.first (with_list c.first list)
        → RereadReach (nodes_told t) m (stopped (handed c) said) (stopped (handed (reread_with_list c list)) said)
    stops t said m same e r =
        record {
          told = refl;
          tree = rw e at r.tree;
          written = equal_words refl;
          again = equal_words refl;
          messages = rw same (rw e at r.messages);
          work = r.work;
        }

    by : (t : Told) → answered c.first ≡ t → Reach c.first (with_list c.first list)
        → RereadReach (nodes_told t) (tokens_told (write_answered (writer_call (handed c) (nodes_told t)))) (after_first (handed c) t)
        (after_first (handed (reread_with_list c list)) t)
    by (refused n q) e r = stops (refused n q) (turned_back 1 n q) _ refl e r
    by (some_messages n) e r = stops (some_messages n) (first_messages n) _ refl e r
    by (a_tree n) e r =
        let kept = no-records (rw e at r.messages) in
        let told = r.answer ∙ e in
        let other = other_tree (handed c) (tree_after (with_list c.first list)) in
        rw (kept, r.work)
        (from-trees (handed c) (tree_after (with_list c.first list)) n (handed-unfaulted c.first n e)
        (handed-unfaulted (with_list c.first list) n told)
        (rw e at r.tree)
        (λ m w. written-readable c.first (writer_call (handed c) n) n m e refl w)
        (λ m w. written-readable (with_list c.first list) (writer_call other n) n m told refl w))
