-- HOW FAR ONE NAME CAN REACH (document 02, card 6), of the entries' definitions: from a list to the tree and the messages, with a rule
-- buffer too, and from a tree to the written list. What the records say is in `specs/Payloads`.
use Prim.Native.Nat.{ℕ, suc, ◌*◌, ◌%◌, ◌≤◌}
use mathlib.Core.{Path.{◌≡◌, refl, ap, sym, ◌∙◌}, List.{List, [], ◌∷◌}, Option.{Option, none, some}}
use native.Mathlib.Omega.{arith}
use lib.ListN.{length, drop, length-map}
use Rattle.molang.specs.{Forest.{Token, Forest, nil, node, size}, Message.{Message}, Read.{Answer, tree, uses}}
use Rattle.molang.specs.{Words.{Refusal, operator_field, words_refusal, tokens_of}, Legal.{LegalTrees}, Nesting.{first_above, too_deep}}
use Rattle.molang.specs.Parse.{Call, length_rows, value_rows, refusal, reading, record_words, a_tree, some_messages, told, answered}
use Rattle.molang.specs.Parse.{in_front, tree_in, tree_after, messages_in, messages_after, work_after}
use Rattle.molang.specs.Rules.{with_rule_number, unruled, copied, rules_of, RuleCall, rule_refusal, rule_answered, ruled_tree_after}
use Rattle.molang.specs.Rules.{ruled_messages_after, ruled_work_after, rules_for, rules_after}
use Rattle.molang.specs.Payloads.{without_payload, PayloadApart, equal_words, ArgumentApart, equal_records, with_list, nodes_told}
use Rattle.molang.specs.Payloads.{records_told, Reach, ruled_with_list, RuleReach, with_tree, tokens_told, WriteReach, AtOne}
use Rattle.molang.specs.Write.{written_tree}
use Rattle.molang.specs.WriteEntry.{tree_fault, trees_of, WriteCall, forest_refusal, write_refusal, written_tokens, tokens, write_told}
use Rattle.molang.specs.WriteEntry.{write_answered, list_in, list_after}
use Rattle.molang.proofs.{FirstFailure.{first-none, then-none, in_parts}, Words.{LegalTokens, words_back, tokens-end, trees-back}}
use Rattle.molang.proofs.{TreeWords.{tree-fault-none}, Legal.{read-legal}, Bounds.{records-length}, Accepted.{call-accepted}}
use Rattle.molang.proofs.{HandedTree.{whole-tree, root-legal}, Relabelling.{relabelled, messages_of, tokens_for, rel-size}}
use Rattle.molang.proofs.OneName.{blank, tokens_apart, nodes_apart, Near, trees, told-both, reach}
use Rattle.molang.proofs.PayloadWords.{without-same, list-blank, trees-blank, list-apart, trees-apart, alike, before, list-words}
use Rattle.molang.proofs.PayloadWords.{trees-words}
use Rattle.molang.proofs.PayloadMessages.{Once, tell_one, read-once, namings-kept, records-apart, records-before}
use Rattle.molang.proofs.PayloadWriting.{plain-alike, Beside, tree-beside, beside-length}

-- ---- Two answers that differ in payloads only

pub apart-length : {width items : ℕ} {xs ys : List ℕ} → PayloadApart width items xs ys → length ys ≡ length xs
apart-length {xs} {ys} p =
    sym (length-map ys without_payload) ∙ (ap length (without-same p) ∙ length-map xs without_payload)

-- Words apart in one payload, in front of the same buffer.
pub front-apart : {width items : ℕ} {xs ys : List ℕ} (buffer : List ℕ) → PayloadApart width items xs ys
    → PayloadApart width items (in_front xs buffer) (in_front ys buffer)
front-apart {xs} buffer p = unfold in_front in rw (apart-length p) (before (drop (length xs) buffer) p)

front-records : {records : ℕ} {xs ys : List ℕ} (buffer : List ℕ) → length ys ≡ length xs → ArgumentApart records xs ys
    → ArgumentApart records (in_front xs buffer) (in_front ys buffer)
front-records {xs} buffer long p = unfold in_front in rw long (records-before (drop (length xs) buffer) p)

messages-long : (φ : Token → Token) (ms : List Message) → length (messages_of φ ms) ≡ length ms
unfolding messages_of
messages-long φ [] = refl
messages-long φ (m ∷ ms) = ap suc (messages-long φ ms)

-- The nodes of an answer's tree are legal.
abbrev LegalAnswer : Answer → Type 0
LegalAnswer a = (k : Token) (cs : Forest) → a ≡ tree k cs → LegalTrees (node k cs nil)

-- What is told and left of two answers, the calls being turned back alike.
pub record ToldAlike (o : Option Refusal) (a b : Answer) : Type 0 where
  pub answer : told o b ≡ told o a
  pub tree : (buffer : List ℕ) → PayloadApart 7 (nodes_told (told o a)) (tree_in o a buffer) (tree_in o b buffer)
  pub messages : (buffer : List ℕ) → ArgumentApart (records_told (told o a)) (messages_in o a buffer) (messages_in o b buffer)
  pub rules : (numbers buffer : List ℕ) → rules_for o b numbers buffer ≡ rules_for o a numbers buffer

turned-back : (r : Refusal) (a b : Answer) → ToldAlike (some r) a b
unfolding told tree_in messages_in rules_for
turned-back r a b =
    record { answer = refl; tree = λ w. equal_words refl; messages = λ w. equal_records refl; rules = λ n w. refl }

answered-alike : {n : ℕ} {a b : Answer} → Near n a b → n ≤ 1 → LegalAnswer a → LegalAnswer b → Once a → ToldAlike none a b
unfolding told tree_in messages_in rules_for nodes_told records_told nodes_apart
answered-alike (trees {k = k} {l = l} {cs = cs} {ds = ds} e few) h la lb once =
    let f = node k cs nil in
    let g = node l ds nil in
    let long : size g ≡ size f = sym (rel-size blank g) ∙ (ap size (sym e) ∙ rel-size blank f) in
    record {
      answer = ap a_tree long;
      tree = λ w. front-apart w (trees-words (alike f g e) (la k cs refl) (lb l ds refl) (omega arith));
      messages = λ w. equal_records refl;
      rules = λ n w. refl;
    }
answered-alike (told-both φ ψ same ms) h la lb (tell_one one) =
    let long : length (messages_of ψ ms) ≡ length (messages_of φ ms) = messages-long ψ ms ∙ sym (messages-long φ ms) in
    let words = records-apart φ ψ same ms (omega (arith, namings-kept φ ms)) in
    let wide : length (record_words (messages_of ψ ms)) ≡ length (record_words (messages_of φ ms)) =
    records-length (messages_of ψ ms) ∙ (ap (λ (n : ℕ). 8 * n) long ∙ sym (records-length (messages_of φ ms)))
    in
    record {
      answer = ap some_messages long;
      tree = λ w. equal_words refl;
      messages = λ w. rw (messages-long φ ms) (front-records w wide words);
      rules = λ n w. refl;
    }

-- ---- Two lists that differ in one payload

-- What the two lists have in common, whose words are all legal.
pub record TwoLists (xs ys : List ℕ) : Type 0 where
  legal : LegalTokens (tokens_of xs)
  other_legal : LegalTokens (tokens_of ys)
  same : tokens_for blank (tokens_of xs) ≡ tokens_for blank (tokens_of ys)
  one : tokens_apart (tokens_of xs) (tokens_of ys) ≤ 1
  long : length ys ≡ length xs

pub two-lists : {items : ℕ} (xs ys : List ℕ) → words_refusal 0 operator_field 0 xs ≡ none → words_refusal 0 operator_field 0 ys ≡ none
    → length xs % 5 ≡ 0
    → PayloadApart 5 items xs ys
    → TwoLists xs ys
two-lists xs ys h g whole p =
    let long = apart-length p in
    let b = words_back 0 0 xs h whole in
    let d = words_back 0 0 ys g (rw long whole) in
    let q = rw (← b.0, ← d.0) at p in
    record {
      legal = b.1;
      other_legal = d.1;
      same = list-blank (tokens_of xs) (tokens_of ys) b.1 d.1 (tokens-end xs) (tokens-end ys) q;
      one = list-apart (tokens_of xs) (tokens_of ys) b.1 d.1 (tokens-end xs) (tokens-end ys) q;
      long = long;
    }

-- Nesting, the used set and the copy that is read for the rules go by no payload.
above-blank : (limit i depth : ℕ) (ks : List Token) → first_above limit i depth (tokens_for blank ks) ≡ first_above limit i depth ks
unfolding first_above tokens_for blank
above-blank limit i depth [] = refl
above-blank limit i depth (k ∷ ks) = rw (above-blank limit (suc i) _ ks) refl

deep-same : {xs ys : List ℕ} (limit : ℕ) → TwoLists xs ys → too_deep limit (tokens_of ys) ≡ too_deep limit (tokens_of xs)
unfolding too_deep
deep-same {xs} {ys} limit t =
    sym (above-blank limit 0 0 (tokens_of ys)) ∙ (ap (first_above limit 0 0) (sym t.same) ∙ above-blank limit 0 0 (tokens_of xs))

uses-blank : (ks : List Token) (n : ℕ) → uses (tokens_for blank ks) n ≡ uses ks n
unfolding uses tokens_for blank
uses-blank [] n = refl
uses-blank (k ∷ ks) n = rw (uses-blank ks n) refl

pub uses-same : {xs ys : List ℕ} → TwoLists xs ys → uses (tokens_of ys) ≡ uses (tokens_of xs)
uses-same {xs} {ys} t i n =
    (sym (uses-blank (tokens_of ys) n) ∙ (ap (λ (ks : List Token). uses ks n) (sym t.same) ∙ uses-blank (tokens_of xs) n)) i

copied-blank : (ks : List Token) → copied (tokens_for blank ks) ≡ copied ks
unfolding copied tokens_for blank unruled with_rule_number
copied-blank [] = refl
copied-blank (k ∷ ks) = rw (copied-blank ks) refl

pub copied-same : {xs ys : List ℕ} → TwoLists xs ys → copied (tokens_of ys) ≡ copied (tokens_of xs)
copied-same {xs} {ys} t = sym (copied-blank (tokens_of ys)) ∙ (ap copied (sym t.same) ∙ copied-blank (tokens_of xs))

-- ---- From a list to tree and messages

-- Whether a call is turned back goes by no payload that is legal.
refusal-same : (c : Call) (list : List ℕ) → words_refusal 0 operator_field 0 c.list ≡ none → words_refusal 0 operator_field 0 list ≡ none
    → TwoLists c.list list
    → refusal (with_list c list) ≡ refusal c
refusal-same c list h g t = unfold refusal length_rows value_rows with_list in rw (t.long, h, g, deep-same c.limit t) refl

pub two-readings : (c d : Call) → refusal c ≡ none → refusal d ≡ none → AtOne c d → TwoLists c.list d.list
    → ToldAlike none (reading c) (reading d)
unfolding reading
two-readings c d h g one t =
    let x = call-accepted c h in
    let y = call-accepted d g in
    rw (one.version, one.used_low, one.used_high, one.source_length)
    (answered-alike (reach (tokens_of c.list) (tokens_of d.list) t.same _ c.version c.source_length) t.one
    (λ k cs e. read-legal _ _ _ _ k cs x.legal x.few e) (λ k cs e. read-legal _ _ _ _ k cs y.legal y.few e)
    (read-once _ _ _ _))

readings-alike : (c : Call) (list : List ℕ) → refusal c ≡ none → refusal (with_list c list) ≡ none → TwoLists c.list list
    → ToldAlike none (reading c) (reading (with_list c list))
unfolding with_list
readings-alike c list h g t =
    two-readings c (with_list c list) h g (record { version = refl; used_low = refl; used_high = refl; source_length = refl }) t

-- EVERY CALL WHOSE WORDS ARE LEGAL, accepted or not, is told and left alike.
pub legal-words-reach : {items : ℕ} (c : Call) (list : List ℕ) → words_refusal 0 operator_field 0 c.list ≡ none
    → words_refusal 0 operator_field 0 list ≡ none
    → length c.list % 5 ≡ 0
    → PayloadApart 5 items c.list list
    → Reach c (with_list c list)
unfolding answered tree_after messages_after work_after with_list
legal-words-reach c list h g whole p =
    let t = two-lists c.list list h g whole p in
    let e = refusal-same c list h g t in
    let b = by (refusal c) refl t e in
    record {
      answer = rw e b.answer;
      tree = rw e (b.tree c.tree);
      messages = rw e (b.messages c.messages);
      work = rw e refl;
    }
  where
    by : (o : Option Refusal) → refusal c ≡ o → TwoLists c.list list → refusal (with_list c list) ≡ refusal c
        → ToldAlike (refusal c) (reading c) (reading (with_list c list))
    by (some r) e t s = rw e (turned-back r _ _)
    by none e t s = rw e (readings-alike c list e (s ∙ e) t)

-- ONE NAME: two accepted lists that differ in one token's payload.
pub one_name : {items : ℕ} (c : Call) (list : List ℕ) → refusal c ≡ none → refusal (with_list c list) ≡ none
    → PayloadApart 5 items c.list list
    → Reach c (with_list c list)
unfolding with_list
one_name c list h g p =
    let x = call-accepted c h in
    let y = call-accepted (with_list c list) g in
    legal-words-reach c list x.words y.words x.whole p

-- A call with a rule buffer that is not turned back is not turned back without it.
rule-accepted : (c : RuleCall) → rule_refusal c ≡ none → refusal c.call ≡ none
unfolding rule_refusal refusal
rule-accepted c h =
    let x = first-none _ _ (sym (in_parts (length_rows c.call) _) ∙ h) in
    in_parts (length_rows c.call) (value_rows c.call) ∙ then-none _ _ x.0 (first-none _ _ x.1).1

-- THE SAME WITH A RULE BUFFER; the rule bytes are equal.
pub one-name-ruled : {items : ℕ} (c : RuleCall) (list : List ℕ) → rule_refusal c ≡ none → rule_refusal (ruled_with_list c list) ≡ none
    → PayloadApart 5 items c.call.list list
    → RuleReach c (ruled_with_list c list)
unfolding rule_answered ruled_tree_after ruled_messages_after ruled_work_after rules_after rules_of ruled_with_list with_list
one-name-ruled c list h g p =
    let accepted = rule-accepted c h in
    let other = rule-accepted (ruled_with_list c list) g in
    let x = call-accepted c.call accepted in
    let y = call-accepted (with_list c.call list) other in
    let t = two-lists c.call.list list x.words y.words x.whole p in
    let b = readings-alike c.call list accepted other t in
    record {
      answer = rw (h, g) b.answer;
      tree = rw (h, g) (b.tree c.call.tree);
      messages = rw (h, g) (b.messages c.call.messages);
      work = rw (h, g) refl;
      rules = rw (h, g, copied-same t) (b.rules _ c.rules);
    }

-- ---- From a tree to the written list

-- The answer to the tree k over cs, and what is written of it.
written-alike : {a b : Forest} (o : Option Refusal) (k l : Token) (cs ds : Forest) → a ≡ node k cs nil → b ≡ node l ds nil
    → Beside 1 (written_tree k cs) (written_tree l ds)
    → LegalTokens (written_tree k cs)
    → LegalTokens (written_tree l ds)
    → (list : List ℕ)
    → (write_told o b ≡ write_told o a) × PayloadApart 5 (tokens_told (write_told o a)) (list_in o a list) (list_in o b list)
unfolding write_told list_in written_tokens tokens_told
written-alike (some r) k l cs ds x y b h g list = (refl, equal_words refl)
written-alike none k l cs ds x y b h g list =
    rw (x, y) (
      ap tokens (beside-length (written_tree k cs) (written_tree l ds) b),
      front-apart list (list-words h g b.same b.few),
    )

-- ONE NODE: two trees that pass answer 12 and differ in one node's payload are told alike, written or not, and written alike.
pub one-node : {items : ℕ} (c : WriteCall) (other : List ℕ)
    → tree_fault 0 operator_field 0 (record { called = 1; begun = 0 }) c.tree ≡ none
    → tree_fault 0 operator_field 0 (record { called = 1; begun = 0 }) other ≡ none
    → PayloadApart 7 items c.tree other
    → WriteReach c (with_tree c other)
unfolding write_answered list_after forest_refusal with_tree nodes_apart relabelled
one-node c other h g p =
    let t = (tree-fault-none c.tree).0 h in
    let u = (tree-fault-none other).0 g in
    let k = t.root in
    let cs = t.children in
    let l = u.root in
    let ds = u.children in
    let q = rw (t.words, u.words) at p in
    let e = trees-blank (node k cs nil) (node l ds nil) t.legal u.legal q in
    let few = trees-apart (node k cs nil) (node l ds nil) t.legal u.legal q in
    let here : blank k ≡ blank l = cc in
    let below : relabelled blank cs ≡ relabelled blank ds = cc in
    let b = tree-beside k l here (alike cs ds below) in
    let b1 : Beside 1 (written_tree k cs) (written_tree l ds) = record { same = b.same; few = omega (arith, b.few) } in
    let x : trees_of c.tree ≡ node k cs nil = ap trees_of t.words ∙ trees-back (node k cs nil) t.legal in
    let y : trees_of other ≡ node l ds nil = ap trees_of u.words ∙ trees-back (node l ds nil) u.legal in
    let long = beside-length (written_tree k cs) (written_tree l ds) b1 in
    let forest : forest_refusal (node l ds nil) (length c.list) ≡ forest_refusal (node k cs nil) (length c.list) =
    rw (long, plain-alike k l cs ds e) refl
    in
    let same : write_refusal (with_tree c other) ≡ write_refusal c =
    whole-tree (with_tree c other) g ∙ (ap (λ (f : Forest). forest_refusal f (length c.list)) y ∙ (forest
    ∙ (ap (λ (f : Forest). forest_refusal f (length c.list)) (sym x) ∙ sym (whole-tree c h))))
    in
    let z = written-alike (write_refusal c) k l cs ds x y b1 (root-legal k cs t.legal) (root-legal l ds u.legal) c.list in
    record { answer = rw same z.0; list = rw same z.1 }
