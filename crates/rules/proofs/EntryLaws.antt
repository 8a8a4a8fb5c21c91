-- The entry with a rule buffer: its table is answers 1 to 5 and 16 before the other rows, a call that these let through is answered as
-- without the buffer, and the bytes are the definition's rules. Assumes nothing.
use Prim.Native.Nat.{ℕ, ◌*◌, ◌/◌, ◌≤◌, ◌<◌}
use mathlib.Core.{Path.{◌≡◌, refl, ap, sym, ◌∙◌, subst}, Bool.{Bool, true, false}, List.{List, [], ◌∷◌}}
use mathlib.Core.Option.{Option, none, some}
use native.Mathlib.Omega.{arith}
use lib.{Dec.{leb}, IntN.{ℤ}, ListN.{length, take}}
use borrow.Author.Tests.{leb-true, le-leb, lt-leb}
use Rattle.molang.{specs.FirstFailure.{must, first_of}, specs.Forest.{Token, Forest, nil, node, size}}
use Rattle.molang.{specs.Order.{effective, is_from, rules}, specs.Words.{Refusal, row, tokens_of}}
use Rattle.molang.specs.Parse.{Call, Told, a_tree, some_messages, refused, length_rows, value_rows, refusal, reading, told, answered, in_halves}
use Rattle.molang.specs.Parse.{in_front, tree_in, tree_after, messages_in, messages_after, work_in, work_after}
use Rattle.molang.specs.Rules.{rules_of, RuleCall, rule_refusal, rule_answered, ruled_tree_after, ruled_messages_after, ruled_work_after, rules_for}
use Rattle.molang.{specs.Rules.{rules_after}, proofs.FirstFailure.{first-none, passed, found, after_none, in_parts}}
use Rattle.molang.{proofs.Accepted.{call-accepted}, proofs.Bounds.{read-tree}, proofs.Legal.{read-legal}, proofs.ListWords.{tokens-count}}
use Rattle.molang.{proofs.OperatorRules.{rules-by-operator}, proofs.HandedTree.{Parsed, tree-front, tree-of-told}}
use Rattle.molang.specs.Read as read
use Rattle.accept.specs.{declared.Sizes.{Sizes}, Accepting.{is_read, is_refused, verdict, length_refusal}}
use Rattle.accept.proofs.AcceptLaws.{sizes_of, same-lengths, accepted, refused_as}
use Rattle.parse.specs.{declared.Answer.{Answer}, declared.Answer.TheVariants.{Tree, Messages}, Answers.{told_of, HasParsed}}
use Rattle.std.specs.Prelude.{Result, Ok, Err}
use Rattle.words.specs.Refusals.{reason_number}
use Rattle.words.specs.declared.refusals.Refusal as code
use Rattle.rules.specs.{Nodes.{word_rules}, Numbering.{room_refusal, CanNumber, numbered}, Answers.{HasRuled}}
use Rattle.rules.proofs.NodeLaws.{tree-ruled}

-- ---- the table

-- Checks after one that does not answer.
behind-none : (o : Option Refusal) (later : List (Option Refusal)) → o ≡ none → first_of (o ∷ later) ≡ first_of later
behind-none o later e = unfold first_of in rw e refl

-- Where the lengths refuse nothing of n tokens, the rule buffer's decides.
module _ (list : List ℕ) (sizes : Sizes) (bytes n : ℕ) (whole : is_read n ≡ verdict (length list / 5) (length_refusal list sizes)) where
  sixteen-left : (b : Bool) → leb (3 * n) bytes ≡ b
      → verdict n (must b (row 16 0)) ≡ verdict (length list / 5) (room_refusal list sizes bytes)
  unfolding room_refusal
  sixteen-left b e =
      let told = accepted n (length list / 5) (length_refusal list sizes) whole in
      rw (← told.0, e) (ap (verdict n) (sym (after_none (length_refusal list sizes) (must b (row 16 0)) told.1)))

  pub room-short : bytes < 3 * n → is_refused 16 0 ≡ verdict (length list / 5) (room_refusal list sizes bytes)
  room-short h = unfold must in sixteen-left false (lt-leb (3 * n) bytes h)

  pub room_fits : 3 * n ≤ bytes → is_read n ≡ verdict (length list / 5) (room_refusal list sizes bytes)
  room_fits h = unfold must in sixteen-left true (le-leb (3 * n) bytes h)

-- What answers 1 to 5 and 16 say of a call.
abbrev pub room_of : RuleCall → Option Refusal
room_of c = room_refusal c.call.list (sizes_of c.call) (length c.rules)

rule-table : (c : RuleCall) → rule_refusal c ≡ first_of (room_of c ∷ value_rows c.call)
unfolding rule_refusal room_refusal
rule-table c =
    let sixteen = must (leb (3 * (length c.call.list / 5)) (length c.rules)) (row 16 0) in
    rw (same-lengths c.call)
    (in_parts (length_rows c.call) (sixteen ∷ value_rows c.call)
    ∙ in_parts (first_of (length_rows c.call) ∷ sixteen ∷ []) (value_rows c.call))

-- A call that these rows turn back.
pub room-refuses : (c : RuleCall) (n number place : ℕ) → is_refused number place ≡ verdict n (room_of c)
    → rule_refusal c ≡ some (row number place)
room-refuses c n number place e =
    rule-table c ∙ found (room_of c) (row number place) (value_rows c.call) (refused_as number place n (room_of c) e)

-- A call that they let through: the other rows are all that is left, here and without the buffer.
pub record LetThrough (c : RuleCall) : Type 0 where
  pub same : rule_refusal c ≡ refusal c.call
  pub bytes : 3 * (length c.call.list / 5) ≤ length c.rules

pub lets-through : (c : RuleCall) (n m : ℕ) → is_read n ≡ verdict m (room_of c) → LetThrough c
unfolding refusal room_refusal first_of
lets-through c n m e =
    let enough = leb (3 * (length c.call.list / 5)) (length c.rules) in
    let passes = (accepted n m (room_of c) e).1 in
    let both = first-none (length_refusal c.call.list (sizes_of c.call)) (must enough (row 16 0) ∷ []) passes in
    let lengths : first_of (length_rows c.call) ≡ none = sym (same-lengths c.call) ∙ both.0 in
    record {
      same = rule-table c
          ∙ (rw passes (sym (in_parts (length_rows c.call) (value_rows c.call)
          ∙ behind-none (first_of (length_rows c.call)) (value_rows c.call) lengths)));
      bytes = leb-true (3 * (length c.call.list / 5)) (length c.rules) (passed enough (row 16 0) [] both.1).0;
    }

-- ---- the bytes

-- What `number` leaves of a tree.
pub tree-numbered : (r : Answer) (nodes : ℕ) (raw version : ℤ) (first : Bool) (tree bytes bytes' : List ℕ) → r ≡ Tree nodes
    → version ≡ effective raw
    → first ≡ is_from 6 version
    → bytes' ≡ in_front (word_rules first (take (7 * nodes) tree)) bytes
    → bytes' ≡ numbered r raw tree bytes
unfolding rules
tree-numbered r nodes raw version first tree bytes bytes' e v f h =
    let same : first ≡ is_from 6 (effective raw) = f ∙ ap (is_from 6) v in
    h ∙ (ap (λ (b : Bool). in_front (word_rules b (take (7 * nodes) tree)) bytes) same
    ∙ ap (λ (x : Answer). numbered x raw tree bytes) (sym e))

-- What is told is no tree.
abbrev NoTree : Told → Type 0
NoTree (a_tree nodes) = ⊥
NoTree (some_messages records) = Unit {0}
NoTree (refused number place) = Unit {0}

-- Where no tree comes the rule buffer is as it was.
kept : (o : Option Refusal) (a : read.Answer) (numbers bytes : List ℕ) → NoTree (told o a) → bytes ≡ rules_for o a numbers bytes
unfolding told rules_for
kept (some r) a numbers bytes e = refl
kept none (read.messages ms) numbers bytes e = refl
kept none (read.tree k cs) numbers bytes e = absurd e

-- The tree that a call reads is legal, and has no more nodes than three a token.
module _ (c : Call) {k : Token} {cs : Forest} (p : Parsed c k cs) where
  parsed-rules : word_rules (rules c.version).comparisons_first (take (7 * size (node k cs nil)) (tree_after c))
      ≡ rules_of (tokens_of c.list) (in_halves c.used_low c.used_high) c.version
  unfolding reading
  parsed-rules =
      let a = call-accepted c p.accepted in
      let first = (rules c.version).comparisons_first in
      ap (word_rules first) (tree-front p)
      ∙ (tree-ruled first (node k cs nil) (read-legal _ _ _ _ k cs a.legal a.few p.reads)
      ∙ sym (rules-by-operator _ _ c.version _ k cs p.reads))

  parsed-few : size (node k cs nil) ≤ 3 * (length c.list / 5)
  parsed-few = unfold reading in omega (arith, read-tree _ _ _ _ k cs p.reads, tokens-count c.list)

-- There is room for the tree's words and a byte for each of its nodes.
pub can-number : (c : RuleCall) (r : Answer) (tree' messages' work' : List ℕ) → LetThrough c → HasParsed c.call (Ok r) tree' messages' work'
    → length tree' ≡ length c.call.tree
    → CanNumber r tree' c.rules
can-number c (Tree nodes) tree' messages' work' l h long =
    let t = tree-of-told c.call nodes (sym h.told) in
    let few = parsed-few c.call t.parsed in
    let a = call-accepted c.call t.parsed.accepted in
    (omega (arith, t.nodes, a.tree), omega (arith, t.nodes, l.bytes))
can-number c (Messages records) tree' messages' work' l h long = tt

-- What is numbered by the words in the tree buffer is the definition's.
numbers-meet : (c : RuleCall) (r : Answer) → told_of (Ok r) ≡ answered c.call
    → numbered r c.call.version (tree_after c.call) c.rules
    ≡ rules_for (refusal c.call) (reading c.call)
    (rules_of (tokens_of c.call.list) (in_halves c.call.used_low c.call.used_high) c.call.version) c.rules
unfolding answered rules_for
numbers-meet c (Tree nodes) e =
    let t = tree-of-told c.call nodes (sym e) in
    rw (t.parsed.accepted, t.parsed.reads, t.nodes)
    (ap (λ (ns : List ℕ). in_front ns c.rules) (parsed-rules c.call t.parsed))
numbers-meet c (Messages records) e = kept (refusal c.call) (reading c.call) _ c.rules (subst (λ (t : Told). NoTree t) e tt)

-- ---- the entry

-- Rows that turn it back, told as a refusal with their number and place.
pub refused-meets : (c : RuleCall) (e : code.Refusal) → rule_refusal c ≡ some (row (reason_number e.reason) e.place)
    → HasRuled c (Err e) c.call.tree c.call.messages c.call.work c.rules
unfolding rule_answered told ruled_tree_after tree_in ruled_messages_after messages_in ruled_work_after work_in rules_after rules_for
refused-meets c e r = record { told = rw r; tree = rw r; messages = rw r; work = rw r; rules = rw r }

module _ (c : RuleCall) (tree' messages' work' : List ℕ) (l : LetThrough c) where
  meets : (r : Result Answer code.Refusal) (rules' : List ℕ) → HasParsed c.call r tree' messages' work'
      → rules' ≡ rules_for (refusal c.call) (reading c.call)
      (rules_of (tokens_of c.call.list) (in_halves c.call.used_low c.call.used_high) c.call.version) c.rules
      → HasRuled c r tree' messages' work' rules'
  unfolding answered tree_after messages_after work_after rule_answered ruled_tree_after ruled_messages_after ruled_work_after rules_after
  meets r rules' h e =
      record { told = rw l.same h.told; tree = rw l.same h.tree; messages = rw l.same h.messages; work = rw l.same h.work; rules = rw l.same e }

  -- `parse` turns it back, and the bytes are as they were; or they are numbered.
  pub turned_meets : (e : code.Refusal) → HasParsed c.call (Err e) tree' messages' work' → HasRuled c (Err e) tree' messages' work' c.rules
  unfolding answered
  turned_meets e h = meets (Err e) c.rules h (kept (refusal c.call) (reading c.call) _ c.rules (subst (λ (t : Told). NoTree t) h.told tt))

  pub read_meets : (r : Answer) (rules' : List ℕ) → HasParsed c.call (Ok r) tree' messages' work' → rules' ≡ numbered r c.call.version tree' c.rules
      → HasRuled c (Ok r) tree' messages' work' rules'
  read_meets r rules' h e =
      meets (Ok r) rules' h (e ∙ (ap (λ (t : List ℕ). numbered r c.call.version t c.rules) h.tree ∙ numbers-meet c r h.told))
