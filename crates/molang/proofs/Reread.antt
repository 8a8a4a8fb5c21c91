-- DEMAND 3 OF THE FUNCTION THAT MAKES THE THREE CALLS (`specs/Reread`): its calls are three calls as `Entries` has them, so what is told
-- and left is as the demand says. What a first reading hands on to the writer, and the writer to the second reading, can be handed on.
use Prim.Native.Nat.{ℕ, ◌+◌, ◌*◌, ◌/◌, ◌≤◌}
use mathlib.Core.{Path.{◌≡◌, refl, ap, sym, ◌∙◌}, Bool.{true, false}, List.{List}, Option.{Option, none, some}}
use native.Mathlib.Omega.{arith}
use lib.{Dec.{eqb}, ListN.{length, take, length-take, length-replicate}}
use Rattle.molang.specs.Operator
use Rattle.molang.specs.Forest.{Token, Forest, nil, node, size}
use Rattle.molang.specs.{Words.{Refusal, operator_field, words_refusal, tokens_of, list_words, tree_words}, Nesting.{too_deep}}
use Rattle.molang.specs.Parse.{Call, is_limit, refusal, Told, a_tree, some_messages, refused, told, answered, tree_after, messages_in}
use Rattle.molang.specs.{Parse.{messages_after, work_in, work_after}, Write.{written_tree, taken_away}}
use Rattle.molang.specs.WriteEntry.{trees_of, WriteCall, WriteTold, tokens, unwritten, write_refusal, write_answered, list_after}
use Rattle.molang.specs.Reread.{bracketless, Rereading, handed, writer_call, exact_call, second_call, two_trees, first_messages}
use Rattle.molang.specs.Reread.{second_messages, turned_back, stopped, second_told, after_writing, after_first, reread, CanReadBack}
use Rattle.molang.specs.Reread.{LiftsTo, HasReadBack, Demand3}
use Rattle.molang.proofs.{Words.{tokens-back}, ListWords.{list-unrefused, list_words-length}, Accepted.{call-accepted}}
use Rattle.molang.proofs.Bounds.{tree_words-length}
use Rattle.molang.proofs.HandedTree.{Parsed, tree-front, tree-told, front-bracketless, front-left, tree-written-legal, writer-tells}
use Rattle.molang.proofs.HandedTree.{tree-written-ends, write_done, tree-of-told, write-of-told}
use Rattle.molang.proofs.{Entries.{ThreeCalls, SameTrees, three-calls}, Settled.{WrittenList}, Lifts.{exactly-used, parsed-lifts}}

-- ---- What can be handed on

-- A tree that is told stands within its buffer.
pub tree-room : (c : Call) (nodes : ℕ) → answered c ≡ a_tree nodes → 7 * nodes ≤ length (tree_after c)
tree-room c nodes h =
    let t = tree-of-told c nodes h in
    let tree = node t.root t.children nil in
    omega (arith, t.nodes, tree_words-length tree, ap length (tree-front t.parsed), length-take (7 * size tree) (tree_after c))

-- Words of so many tokens, five each, which are legal: the words written of that tree are such (`written-readable`).
pub record Readable (ws : List ℕ) (count : ℕ) : Type 0 where
  pub long : length ws ≡ 5 * count
  pub legal : words_refusal 0 operator_field 0 ws ≡ none

pub written-readable : (first : Call) (w : WriteCall) (nodes count : ℕ) → answered first ≡ a_tree nodes
    → w.tree ≡ take (7 * nodes) (tree_after first)
    → write_answered w ≡ tokens count
    → Readable (take (5 * count) (list_after w)) count
written-readable first w nodes count parsed words wrote =
    let t = tree-of-told first nodes parsed in
    let p = t.parsed in
    let got = words ∙ (ap (λ (n : ℕ). take (7 * n) (tree_after first)) t.nodes ∙ tree-front p) in
    let done = write_done p w got (write-of-told w count wrote) in
    let said = done.told in
    let counted : count ≡ length (written_tree t.root t.children) = cc in
    let is = ap (λ (n : ℕ). take (5 * n) (list_after w)) counted ∙ done.front in
    record {
      long = ap length is ∙ (list_words-length (written_tree t.root t.children) ∙ ap (λ (n : ℕ). 5 * n) (sym counted));
      legal = rw is (list-unrefused (tree-written-legal p) 0 0);
    }

-- ---- The demand

-- A reading that gives a tree touches no message word; the work buffer stays as long as it was.
messages-kept : {c : Call} {k : Token} {cs : Forest} → Parsed c k cs → messages_after c ≡ c.messages
messages-kept p = unfold messages_after messages_in in rw (p.accepted, p.reads) refl

work-long : {c : Call} {k : Token} {cs : Forest} → Parsed c k cs → length (work_after c) ≡ length c.work
work-long {c} p = unfold work_after work_in in rw p.accepted (length-replicate (length c.work) 0)

-- The writer's call and the second reading's, where the first gives the tree k over cs.
abbrev writing : Rereading → Token → Forest → WriteCall
writing c k cs = writer_call (handed c) (size (node k cs nil))

abbrev second : Rereading → Token → Forest → Call
second c k cs = second_call (handed c) (size (node k cs nil)) (length (written_tree k cs))

module _ (c : Rereading) (k : Token) (cs : Forest) (p : Parsed c.first k cs) where
  tree-got : (writing c k cs).tree ≡ tree_words (node k cs nil)
  tree-got = unfold handed writer_call in tree-front p

  module _ (writes : write_refusal (writing c k cs) ≡ none) where
    list-got : take (5 * length (written_tree k cs)) (list_after (writing c k cs)) ≡ list_words (written_tree k cs)
    list-got = (write_done p (writing c k cs) tree-got writes).front

    tokens-got : tokens_of (take (5 * length (written_tree k cs)) (list_after (writing c k cs))) ≡ written_tree k cs
    tokens-got =
        let ends = tree-written-ends p (write_done p (writing c k cs) tree-got writes).plain in
        ap tokens_of list-got ∙ tokens-back (written_tree k cs) (tree-written-legal p) ends

    -- What was written, as tokens.
    first-list : WrittenList (list_words (written_tree k cs))
    first-list =
        let wrote = write_done p (writing c k cs) tree-got writes in
        record {
          root = k;
          children = cs;
          plain = wrote.plain;
          legal = tree-written-legal p;
          ends = tree-written-ends p wrote.plain;
          few = wrote.few;
          words = refl;
        }

    -- The second reading is made.
    made : reread c ≡ after_writing (handed c) (size (node k cs nil)) (tokens (length (written_tree k cs)))
    made = unfold reread after_first in rw (tree-told p, (write_done p (writing c k cs) tree-got writes).told) refl

    calls : 21 * length (written_tree k cs) ≤ length c.again → 64 * length (written_tree k cs) + 64 ≤ length c.first.work
        → c.source_length ≤ 536870911
        → is_limit c.limit ≡ true
        → too_deep c.limit (written_tree k cs) ≡ none
        → ThreeCalls c.first (writing c k cs) (second c k cs) k cs
    unfolding handed writer_call second_call exact_call
    calls tree_room work_room legal_length legal_limit within_limit =
        record {
          parsed = p;
          tree_handed = refl;
          writes = writes;
          list_handed = refl;
          used_exactly = exactly-used (second c k cs).list (written_tree k cs) tokens-got (tree-written-legal p);
          tree_room = tree_room;
          message_room = rw (messages-kept p) (call-accepted c.first p.accepted).messages;
          work_room = rw (work-long p) work_room;
          legal_length = legal_length;
          legal_limit = legal_limit;
          within_limit = within_limit;
        }

    abbrev again : ThreeCalls c.first (writing c k cs) (second c k cs) k cs → SameTrees c.first (writing c k cs) (second c k cs) k cs
    again t = three-calls c.first (writing c k cs) (second c k cs) k cs t

    abbrev nodes_of : ThreeCalls c.first (writing c k cs) (second c k cs) k cs → ℕ
    nodes_of t = size (node (again t).root (again t).children nil)

    told-again : (t : ThreeCalls c.first (writing c k cs) (second c k cs) k cs)
        → (reread c).told ≡ two_trees (size (node k cs nil)) (length (written_tree k cs)) (nodes_of t)
    told-again t = unfold handed after_writing second_told in rw (made, (again t).answers) refl

    read_back_lem : ThreeCalls c.first (writing c k cs) (second c k cs) k cs → HasReadBack k cs (reread c)
    unfolding handed after_writing first-list
    read_back_lem t =
        record {
          nodes_again = nodes_of t;
          tells = told-again t;
          listed = rw made list-got;
          words = rw made (front-bracketless (again t).parsed ∙ ((again t).words ∙ sym (front-bracketless p)));
          lifts = rw (made, list-got) (parsed-lifts first-list (again t).parsed (again t).plain_again (again t).writes_again);
        }

    -- Where the root is no semicolon, nothing is left out of the comparison.
    read-in-all : (t : ThreeCalls c.first (writing c k cs) (second c k cs) k cs) → eqb k.op Operator.semicolon ≡ false
        → tree_words (taken_away false (trees_of (take (7 * nodes_of t) (reread c).again)) nil)
        ≡ tree_words (taken_away false (trees_of (take (7 * size (node k cs nil)) (reread c).tree)) nil)
    unfolding handed after_writing
    read-in-all t other = rw made (front-left (again t).parsed ∙ ((again t).all_words other ∙ sym (front-left p)))

    -- A second reading that is not turned back had room, and was within its limit.
    accepted : refusal (second c k cs) ≡ none → HasReadBack k cs (reread c)
    unfolding handed second_call exact_call
    accepted e =
        let n = length (written_tree k cs) in
        let a = call-accepted (second c k cs) e in
        let long : length (second c k cs).list ≡ 5 * n = ap length list-got ∙ list_words-length (written_tree k cs) in
        let tree : 21 * (length (second c k cs).list / 5) ≤ length c.again = a.tree in
        let work : 64 * (length (second c k cs).list / 5) + 64 ≤ length (work_after c.first) = a.work in
        let within : too_deep c.limit (written_tree k cs) ≡ none = rw tokens-got at a.nesting in
        read_back_lem (calls (omega arith) (omega (arith, work-long p)) a.source_length a.limit within)

-- EVERY CALL ENDS IN ONE OF THREE WAYS: the first reading gives messages, one of the calls is turned back, or the tree reads back.
pub data Ends (c : Rereading) : Type 0 where
  gave_messages : (records : ℕ) → (reread c).told ≡ first_messages records → Ends c
  was_turned_back : (call number place : ℕ) → (reread c).told ≡ turned_back call number place → Ends c
  read_back : (k : Token) (cs : Forest) → HasReadBack k cs (reread c) → Ends c

pub ends : (c : Rereading) → Ends c
unfolding reread after_first after_writing stopped second_told answered told
ends c = first (answered c.first) refl
  where
    again : (k : Token) (cs : Forest) (p : Parsed c.first k cs) (writes : write_refusal (writing c k cs) ≡ none) (o : Option Refusal)
        → refusal (second c k cs) ≡ o
        → Ends c
    again k cs p writes none e = read_back k cs (accepted c k cs p writes e)
    again k cs p writes (some r) e = was_turned_back 3 r.number r.place (rw (made c k cs p writes, e) refl)

    write : (k : Token) (cs : Forest) (p : Parsed c.first k cs) (o : WriteTold) → write_answered (writing c k cs) ≡ o → Ends c
    write k cs p (unwritten m q) e = was_turned_back 2 m q (rw (tree-told p, e) refl)
    write k cs p (tokens n) e = again k cs p (write-of-told (writing c k cs) n e) (refusal (second c k cs)) refl

    first : (o : Told) → answered c.first ≡ o → Ends c
    first (refused m q) e = was_turned_back 1 m q (rw e refl)
    first (some_messages m) e = gave_messages m (rw e refl)
    first (a_tree n) e =
        let t = tree-of-told c.first n e in
        write t.root t.children t.parsed (write_answered (writing c t.root t.children)) refl

-- DEMAND 3.
pub demand-3 : (c : Rereading) → Demand3 c (reread c)
unfolding handed writer_call
demand-3 c =
    record {
      reads_back = λ k cs d.
          let p : Parsed c.first k cs = record { accepted = d.accepted; reads = d.reads } in
          let tells = (writer-tells p (writing c k cs) (tree-got c k cs p)).writes d.plain d.few d.list_room in
          let writes = write-of-told (writing c k cs) (length (written_tree k cs)) tells in
          read_back_lem c k cs p writes (calls c k cs p writes d.tree_room d.work_room d.legal_length d.legal_limit d.within_limit);
      agree = λ nodes count nodes_again h. agree nodes count nodes_again h (ends c);
      lifts = λ nodes count nodes_again h. same-list nodes count nodes_again h (ends c);
      no_messages = λ records h. never records h (ends c);
    }
  where
    agree : (nodes count nodes_again : ℕ) → (reread c).told ≡ two_trees nodes count nodes_again → Ends c
        → bracketless (take (7 * nodes_again) (reread c).again) ≡ bracketless (take (7 * nodes) (reread c).tree)
    agree nodes count nodes_again h (gave_messages m e) = let z : ◌≡◌ {A = ℕ} 0 1 = cc in absurd (omega arith)
    agree nodes count nodes_again h (was_turned_back m n q e) = let z : ◌≡◌ {A = ℕ} 0 1 = cc in absurd (omega arith)
    agree nodes count nodes_again h (read_back k cs r) =
        let told = r.tells in
        let first : size (node k cs nil) ≡ nodes = cc in
        let again : r.nodes_again ≡ nodes_again = cc in
        rw (← first, ← again) r.words

    same-list : (nodes count nodes_again : ℕ) → (reread c).told ≡ two_trees nodes count nodes_again → Ends c
        → LiftsTo (take (7 * nodes_again) (reread c).again) (take (5 * count) (reread c).written)
    same-list nodes count nodes_again h (gave_messages m e) = let z : ◌≡◌ {A = ℕ} 0 1 = cc in absurd (omega arith)
    same-list nodes count nodes_again h (was_turned_back m n q e) = let z : ◌≡◌ {A = ℕ} 0 1 = cc in absurd (omega arith)
    same-list nodes count nodes_again h (read_back k cs r) =
        let told = r.tells in
        let written : length (written_tree k cs) ≡ count = cc in
        let again : r.nodes_again ≡ nodes_again = cc in
        rw (← written, ← again) r.lifts

    never : (records : ℕ) → (reread c).told ≡ second_messages records → Ends c → ⊥
    never records h (gave_messages m e) = let z : ◌≡◌ {A = ℕ} 0 1 = cc in omega arith
    never records h (was_turned_back m n q e) = let z : ◌≡◌ {A = ℕ} 0 1 = cc in omega arith
    never records h (read_back k cs r) = let told = r.tells in let z : ◌≡◌ {A = ℕ} 0 1 = cc in omega arith

-- AND OF EXPRESSIONS EVERYTHING AGREES: where the first tree's root is no semicolon, all words that are left are the same.
pub demand-3-in-all : (c : Rereading) (k : Token) (cs : Forest) → CanReadBack c k cs → eqb k.op Operator.semicolon ≡ false
    → (nodes count nodes_again : ℕ) → (reread c).told ≡ two_trees nodes count nodes_again
    → tree_words (taken_away false (trees_of (take (7 * nodes_again) (reread c).again)) nil)
    ≡ tree_words (taken_away false (trees_of (take (7 * nodes) (reread c).tree)) nil)
unfolding handed writer_call
demand-3-in-all c k cs d other nodes count nodes_again h =
    let p : Parsed c.first k cs = record { accepted = d.accepted; reads = d.reads } in
    let tells = (writer-tells p (writing c k cs) (tree-got c k cs p)).writes d.plain d.few d.list_room in
    let writes = write-of-told (writing c k cs) (length (written_tree k cs)) tells in
    let t = calls c k cs p writes d.tree_room d.work_room d.legal_length d.legal_limit d.within_limit in
    let told = told-again c k cs p writes t in
    let first : size (node k cs nil) ≡ nodes = cc in
    let second : nodes_of c k cs p writes t ≡ nodes_again = cc in
    rw (← first, ← second) (read-in-all c k cs p writes t other)
