-- HOW FAR ONE NAME CAN REACH, by the answer alone (document 02, card 6): the card asks for one version, used set and source length, and
-- neither for one limit nor for buffers that hold the same. So the words that are the answer's are compared, and not whole buffers.
use Prim.Native.Nat.{ℕ, zero, suc, ◌*◌, ◌^◌}
use mathlib.Core.{Path.{◌≡◌, refl, ap, sym, ◌∙◌}, List.{List, [], append-nil}, Option.{Option, none, some}}
use lib.{ListN.{length, take, drop, replicate}, IntN.{pos}}
use native.Mathlib.Omega.{arith}
use Rattle.molang.specs.Operator
use Rattle.molang.specs.{Forest.{Token, Forest, nil, node, size}, Read.{Answer, tree, messages}, Order.{rules}, Left.{Left, left}}
use Rattle.molang.specs.Words.{Refusal, token_words, node_words_of, tokens_of, tree_words, list_words}
use Rattle.molang.specs.Parse.{Call, reading, record_words, told, in_halves, in_front, tree_in, messages_in}
use Rattle.molang.specs.{Rules.{rules_of, rules_for}, Payloads.{PayloadApart, one_payload, nodes_told, records_told, tokens_told, with_tree}}
use Rattle.molang.specs.Payloads.{AtOne, FreeReach, FreeWriteReach}
use Rattle.molang.specs.WriteEntry.{trees_of, WriteCall, write_refusal, written_tokens, tokens, write_told, write_answered, list_in}
use Rattle.molang.specs.WriteEntry.{list_after}
use Rattle.molang.proofs.{Accepted.{call-accepted}, Left.{either-accepted, comes_to, rules_left, left-comes}}
use Rattle.molang.proofs.{HandedTree.{front-words, write-of-told}, Bounds.{tree_words-length, records-length}}
use Rattle.molang.proofs.{OperatorRules.{rules-by-operator, rule-count}, PayloadChain.{take-apart}, Trees.{some-none}}
use Rattle.molang.proofs.Payloads.{two-lists, TwoLists, two-readings, copied-same, one-node}
use Rattle.molang.proofs.{ListWords.{list_words-length}, FirstFailure.{first-none, with_number-none}, Computed.{computed}}

-- ---- The words of an answer are the front of its buffers

drop-none : (n : ℕ) → drop {A = ℕ} n [] ≡ []
drop-none zero = refl
drop-none (suc n) = refl

front-none : (ws : List ℕ) → in_front ws [] ≡ ws
front-none ws = unfold in_front in rw (drop-none (length ws)) (append-nil ws)

-- So many words in front of any buffer.
front-any : (ws buffer : List ℕ) (n : ℕ) → length ws ≡ n → take n (in_front ws buffer) ≡ in_front ws []
front-any ws buffer n h = front-words ws buffer n h ∙ sym (front-none ws)

front-tree : (a : Answer) (buffer : List ℕ) → take (7 * nodes_told (told none a)) (tree_in none a buffer) ≡ tree_in none a []
unfolding tree_in told nodes_told
front-tree (tree k cs) buffer = front-any (tree_words (node k cs nil)) buffer _ (tree_words-length (node k cs nil))
front-tree (messages ms) buffer = refl

front-messages : (a : Answer) (buffer : List ℕ) → take (8 * records_told (told none a)) (messages_in none a buffer) ≡ messages_in none a []
unfolding messages_in told records_told
front-messages (tree k cs) buffer = refl
front-messages (messages ms) buffer = front-any (record_words ms) buffer _ (records-length ms)

numbers_of : Call → List ℕ
numbers_of c = rules_of (tokens_of c.list) (in_halves c.used_low c.used_high) c.version

numbers-length : (c : Call) (k : Token) (cs : Forest) → reading c ≡ tree k cs → length (numbers_of c) ≡ size (node k cs nil)
unfolding reading numbers_of
numbers-length c k cs e =
    ap length (rules-by-operator (tokens_of c.list) _ c.version c.source_length k cs e)
    ∙ rule-count (rules c.version).comparisons_first (node k cs nil)

front-rules : (a : Answer) (numbers buffer : List ℕ) → ((k : Token) (cs : Forest) → a ≡ tree k cs → length numbers ≡ size (node k cs nil))
    → take (nodes_told (told none a)) (rules_for none a numbers buffer) ≡ rules_for none a numbers []
unfolding rules_for told nodes_told
front-rules (tree k cs) numbers buffer h = front-any numbers buffer _ (h k cs refl)
front-rules (messages ms) numbers buffer h = refl

-- ---- Two calls

-- A call that is read comes to its reading.
read-comes : (rules : Option (List ℕ)) (c : Call) → (left rules c).turned ≡ none → left rules c ≡ comes_to none c (rules_left rules none c)
read-comes rules c h = left-comes rules c ∙ ap (λ (o : Option Refusal). comes_to o c (rules_left rules o c)) h

numbers-same : (c d : Call) → AtOne c d → TwoLists c.list d.list → numbers_of d ≡ numbers_of c
numbers-same c d at t = unfold numbers_of rules_of in rw (at.version, at.used_low, at.used_high, copied-same t) refl

rules-front : (one : Option (List ℕ)) (c : Call) (first : List ℕ) → one ≡ some first
    → take (nodes_told (told none (reading c))) (rules_left one none c) ≡ rules_for none (reading c) (numbers_of c) []
unfolding rules_left numbers_of
rules-front none c first e = some-none (sym e)
rules-front (some buffer) c first e = front-rules (reading c) (numbers_of c) buffer (numbers-length c)

-- ONE NAME, WHATEVER THE LIMITS AND THE BUFFERS: two accepted lists that differ in one token's payload.
pub one-name-free : {items : ℕ} (one other : Option (List ℕ)) (c d : Call) → (left one c).turned ≡ none → (left other d).turned ≡ none
    → AtOne c d
    → PayloadApart 5 items c.list d.list
    → FreeReach one other c d
unfolding comes_to
one-name-free one other c d h g at p =
    let hc = either-accepted one c h in
    let gd = either-accepted other d g in
    let x = call-accepted c hc in
    let t = two-lists c.list d.list x.words (call-accepted d gd).words x.whole p in
    let b = two-readings c d hc gd at t in
    let lc = read-comes one c h in
    let ld = read-comes other d g in
    let same = sym b.answer in
    let trees : take (7 * nodes_told (told none (reading c))) (tree_in none (reading d) d.tree) ≡ tree_in none (reading d) [] =
    rw same (front-tree (reading d) d.tree) in
    let many = 8 * records_told (told none (reading c)) in
    let records : take many (messages_in none (reading d) d.messages) ≡ messages_in none (reading d) [] =
    rw same (front-messages (reading d) d.messages) in
    record {
      answer = ap (λ (l : Left). l.told) ld ∙ b.answer ∙ sym (ap (λ (l : Left). l.told) lc);
      tree = rw (lc, ld) (rw (front-tree (reading c) c.tree, trees) (b.tree []));
      messages = rw (lc, ld) (rw (front-messages (reading c) c.messages, records) (b.messages []));
      rules = λ first second e f.
          let bytes : take (nodes_told (told none (reading c))) (rules_left other none d) ≡ rules_for none (reading d) (numbers_of d) [] =
          rw same (rules-front other d second f) in
          rw (lc, ld) (bytes ∙ (ap (λ (ns : List ℕ). rules_for none (reading d) ns []) (numbers-same c d at t)
          ∙ (b.rules (numbers_of c) [] ∙ sym (rules-front one c first e))));
    }

-- ---- Two trees

tokens_in : WriteCall → List Token
tokens_in w = written_tokens (trees_of w.tree)

write-told : (w : WriteCall) → write_refusal w ≡ none → write_answered w ≡ tokens (length (tokens_in w))
write-told w h = unfold write_answered write_told tokens_in in rw h refl

written-front : (w : WriteCall) → write_refusal w ≡ none → take (5 * length (tokens_in w)) (list_after w) ≡ list_words (tokens_in w)
unfolding list_after list_in tokens_in
written-front w h = rw h (front-words (list_words (tokens_in w)) w.list _ (list_words-length (tokens_in w)))

-- ONE NODE, WHATEVER LIST IS LENT: two trees that are written and differ in one node's payload.
pub one-node-free : {items : ℕ} (c d : WriteCall) → write_refusal c ≡ none → write_refusal d ≡ none → PayloadApart 7 items c.tree d.tree
    → FreeWriteReach c d
unfolding write_refusal with_tree tokens_told tokens_in
one-node-free c d h g p =
    let whole = with_number-none 12 _ (first-none _ _ h).0 in
    let other = with_number-none 12 _ (first-none _ _ g).0 in
    let r = one-node c d.tree whole other p in
    let m = length (tokens_in c) in
    let between = write-of-told (with_tree c d.tree) m (r.answer ∙ write-told c h) in
    let same : tokens (length (tokens_in d)) ≡ tokens m = sym (write-told (with_tree c d.tree) between) ∙ (r.answer ∙ write-told c h) in
    let long : length (tokens_in d) ≡ m = cc in
    let lists : PayloadApart 5 m (list_after c) (list_after (with_tree c d.tree)) = rw (write-told c h) at r.list in
    let front : take (5 * m) (list_after (with_tree c d.tree)) ≡ take (5 * m) (list_after d) =
    rw (← long) (written-front (with_tree c d.tree) between ∙ sym (written-front d g)) in
    record {
      answer = write-told d g ∙ (same ∙ sym (write-told c h));
      list = rw (write-told c h) (rw (← front) (take-apart lists));
    }

-- ---- Two calls of which the premises hold

-- `x` with a number, without a word to spare: the rule buffer, the limit and what the buffers hold are another in each.
named : ℕ → List ℕ
unfolding computed
named value = token_words (record { op = Operator.float; variant = 1; value = value; start = 0; end = 1; close = 1 })

lent : ℕ → ℕ → ℕ → Call
lent value limit filling =
    record {
      list = named value;
      tree = replicate 21 filling;
      messages = replicate 16 filling;
      work = replicate 128 filling;
      source_length = 1;
      version = pos 5;
      used_low = 2 ^ Operator.float;
      used_high = 0;
      limit = limit;
    }

blanked : PayloadApart 5 1 (named 65537) (named 2)
unfolding computed named
blanked =
    one_payload 0 (omega arith)
    (record {
      front = [];
      item = named 65537;
      other = named 2;
      behind = [];
      first = refl;
      second = refl;
      index = refl;
      wide = refl;
      alike = refl;
    })

name-blanked : FreeReach (some (replicate 3 9)) none (lent 65537 1 7) (lent 2 4096 0)
unfolding computed named lent
name-blanked =
    one-name-free (some (replicate 3 9)) none (lent 65537 1 7) (lent 2 4096 0) refl refl
    (record { version = refl; used_low = refl; used_high = refl; source_length = refl }) blanked

written : ℕ → ℕ → WriteCall
unfolding computed
written value filling =
    record {
      tree = node_words_of (record { op = Operator.float; variant = 1; value = value; start = 0; end = 1; close = 1 }) 0;
      list = replicate 5 filling;
    }

node-apart : PayloadApart 7 1 (written 65537 7).tree (written 2 0).tree
unfolding computed written
node-apart =
    one_payload 0 (omega arith)
    (record {
      front = [];
      item = (written 65537 7).tree;
      other = (written 2 0).tree;
      behind = [];
      first = refl;
      second = refl;
      index = refl;
      wide = refl;
      alike = refl;
    })

node-blanked : FreeWriteReach (written 65537 7) (written 2 0)
unfolding computed written
node-blanked = one-node-free (written 65537 7) (written 2 0) refl refl node-apart
