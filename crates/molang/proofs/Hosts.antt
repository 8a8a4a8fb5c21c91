-- A list with hosts reads as it does with 76 in their stead, their numbers kept in the tree (specs/Hosts): first reading and what its
-- answer tells, then the words, then the parse entry.
use Prim.Native.Nat.{ℕ, suc, ◌+◌, ◌-◌, ◌*◌, ◌/◌, ◌%◌, ◌^◌, ◌≤◌, ◌<◌}
use mathlib.Core.{Path.{◌≡◌, refl, ap, subst, ◌∙◌, sym}, Bool.{Bool, true, false, ◌&&◌, ◌||◌, or-true, and-false}}
use mathlib.Core.{List.{List, [], ◌∷◌, ◌++◌, map, map-append}, Option.{Option, none, some}}
use native.Mathlib.Omega.{arith}
use lib.{Dec.{eqb, leb, ltb}, IntN.{ℤ}, ListN.{length, take, length-map}}
use borrow.Author.Tests.{eqb-true, ne_eqb, leb-true, lt-ltb, le-ltb, ltb-true, ltb-false}
use Rattle.molang.specs.Operator
use Rattle.molang.specs.Operator.{between, is_host, is_operator, is_one_of, any, closing_of, is_closer}
use Rattle.molang.specs.Forest.{Token, Forest, nil, node, renamed, bare, closed_by, leaves, count, size}
use Rattle.molang.specs.Message.{Message, multiple_roots, complex_must_end_with_semicolon, leading_member_accessor, closing_mismatch}
use Rattle.molang.specs.Message.{section_not_closed, no_closing_symbol, empty_parameter_list, math_at_end, math_without_parenthesis}
use Rattle.molang.specs.Message.{leading_semicolon, empty_array_index, binary_at_end, negate_without_operand, not_without_operand}
use Rattle.molang.specs.Message.{unknown_operation, unary_without_operand, ternary_without_operands, host_value, closer, about}
use Rattle.molang.specs.{Message.{message_record}, Read.{Answer, tree, messages, read, uses}, FirstFailure.{must, first_of}}
use Rattle.molang.specs.Words.{word, kind_of, low_of, operator_bits, number_in, token_words, token_of, tokens_of, node_words_of, tree_words}
use Rattle.molang.specs.Words.{Field, operator_field, start_field, end_field, upper_field, lower_field, count_field, close_field, field_kind}
use Rattle.molang.specs.Words.{low_fault, word_fault, variant_after, next_in_token, Refusal, words_refusal}
use Rattle.molang.specs.{Legal.{Legal, LegalTrees, no_trees, legal_tree}, Nesting.{open_after, first_above, too_deep}}
use Rattle.molang.specs.Parse.{Call, length_rows, value_rows, refusal, reading, record_words, a_tree, some_messages, told}
use Rattle.molang.specs.Parse.{in_front, tree_in, messages_in, work_in}
use Rattle.molang.specs.Hosts.{is_host_word, with_this_word, hostless, tree_told, is_this_or_host, host_before, host_tokens, host_nodes}
use Rattle.molang.specs.{Hosts.{ReadsAsThis, WritesHosts}, Write.{spanning}, WriteEntry.{WriteCall, write_refusal, written_tokens}}
use Rattle.molang.specs.Rules.{rule_of, with_rule_number, unruled, with_rule, ruled, ruling, rules_in, copied, rules_of, rule_refusal}
use Rattle.molang.specs.Rules.{rules_for}
use Rattle.molang.specs.{Left.{Left, left}, Order.{rules, Pass, order, runs, apply}, Message.{Result, ok, fail}, Parse.{in_halves}}
use Rattle.molang.proofs.Booleans
use Rattle.molang.proofs.{Trees.{both, decided}, FirstFailure.{behind, in_parts, first-none, with_number-none}}
use Rattle.molang.proofs.Words.{word_back, kind-word, low_word, bits-number, bits-room, host-within, operator-small, word-faultless}
use Rattle.molang.proofs.{Words.{next_word}, HostOrder.{read-hosts, written-hosts}, Legal.{read-legal}}
use Rattle.molang.proofs.{Accepted.{call-accepted}, HandedTree.{front-words, tree-wrote, write-of-told}, Bounds.{tree_words-length}}
use Rattle.molang.proofs.Relabelling.{is_named, all_named, Seen, itself, as_this, one_of-seen, closing-seen, Unnoticed, relabelled}
use Rattle.molang.proofs.Relabelling.{message_of, messages_of, answer_of, tokens_for, read-natural, rel-count, rel-size}
use Rattle.molang.proofs.Left.{either-accepted, comes_to, rules_left, left-comes}
use Rattle.molang.proofs.Relabelling.{pick, result_of, is_quiet, all_quiet, order-quiet, apply-natural}
use Rattle.molang.proofs.MessageNumbers.{NamesLow, AllLow, AnswerLow, read_low}
use Rattle.molang.proofs.{TreeWords.{tree-fault-none}, StackOrder.{trees-of-tree}}

-- ---- Tokens

-- 76 for a host's number.
unfoldable pub as_operator : ℕ → ℕ
as_operator n = elim (is_host n) [ true ↦ Operator.this | false ↦ n ]

unfoldable pub with_this : Token → Token
with_this k = renamed (as_operator k.op) k

host-high : (n : ℕ) → is_host n ≡ true → 110 < n
host-high n h = omega (arith, (host-within n h).0)

low-unhosted : (n : ℕ) → n ≤ 110 → is_host n ≡ false
low-unhosted n l = Booleans.never (is_host n) λ h. omega (arith, (host-within n h).0)

seen-so : (n : ℕ) (b : Bool) → is_host n ≡ b → Seen (elim b [ true ↦ Operator.this | false ↦ n ]) n
seen-so n true h = as_this refl (host-high n h)
seen-so n false h = itself refl

this-seen : (n : ℕ) → Seen (as_operator n) n
this-seen n = unfold as_operator in seen-so n (is_host n) refl

host-as : (n : ℕ) → is_host n ≡ true → as_operator n ≡ Operator.this
host-as n h = unfold as_operator in rw (h, as_operator) refl

other-as : (n : ℕ) → is_host n ≡ false → as_operator n ≡ n
other-as n h = unfold as_operator in rw (h, as_operator) refl

low-kept : (o : ℕ) → o ≤ 110 → as_operator o ≡ o
low-kept o l = other-as o (low-unhosted o l)

unnoticed : Unnoticed with_this
unfolding with_this renamed bare closed_by
unnoticed =
    record {
      op = λ k. this-seen k.op;
      start = λ k. refl;
      end = λ k. refl;
      renames = λ o k l. ap (λ (n : ℕ). renamed n k) (low-kept o l);
      bares = λ o k l. ap (λ (n : ℕ). bare n k) (low-kept o l);
      closes = λ k o. refl;
    }

-- READS AS WITH 76: at the same used set, version and source length.
pub reads-as-this : (tokens : List Token) (u : ℕ → Bool) (version : ℤ) (source_length : ℕ)
    → read (tokens_for with_this tokens) u version source_length ≡ answer_of with_this (read tokens u version source_length)
reads-as-this = read-natural with_this unnoticed

-- 76 stands for both.
this-for : (n : ℕ) → (eqb n Operator.this || is_host n) ≡ true → as_operator n ≡ Operator.this
this-for n h =
    Booleans.either (is_host n) (λ t. host-as n t)
    (λ f. other-as n f ∙ eqb-true n Operator.this (Booleans.or-only-first (eqb n Operator.this) (is_host n) f h))

-- ---- The used set

unfoldable pub hosts_left_out : List Token → List Token
hosts_left_out [] = []
hosts_left_out (k ∷ ks) = elim (is_host k.op) [ true ↦ hosts_left_out ks | false ↦ k ∷ hosts_left_out ks ]

host-unused : (o n : ℕ) → is_host o ≡ true → (leb n Operator.host_math_volatile && eqb o n) ≡ false
host-unused o n h =
    Booleans.either (leb n 110) (λ t. rw (t, ne_eqb o n (λ e. omega (arith, host-high o h, leb-true n 110 t))) refl) (λ f. rw f refl)

-- THE EXACT USED SET OF A LIST IS THAT OF ITS OTHER OPERATORS: so it is in demand 3, whose second reading gets the exact set (Reread).
pub uses-others : (ks : List Token) (n : ℕ) → uses ks n ≡ uses (hosts_left_out ks) n
unfolding uses hosts_left_out
uses-others [] n = refl
uses-others (k ∷ ks) n =
    decided (λ (ls : List Token). uses (k ∷ ks) n ≡ uses ls n) (is_host k.op) _ _
    (λ t. rw (host-unused k.op n t) (uses-others ks n)) (λ f. rw (uses-others ks n) refl)

-- ---- What is told

this-messages : (ms : List Message) → length (messages_of with_this ms) ≡ length ms
unfolding messages_of
this-messages [] = refl
this-messages (m ∷ ms) = ap suc (this-messages ms)

-- A record that names no host is the same.
record_same : (m : Message) → NamesLow m → message_record (message_of with_this m) ≡ message_record m
unfolding message_record message_of with_this renamed closer host_value about
record_same (multiple_roots from to roots) h = refl
record_same (complex_must_end_with_semicolon from to) h = refl
record_same (leading_member_accessor k) h = refl
record_same (closing_mismatch o i k j) h = rw (low-kept o.op h.0, low-kept k.op h.1) refl
record_same (section_not_closed o) h = rw (low-kept o.op h) refl
record_same (no_closing_symbol o i) h = rw (low-kept o.op h) refl
record_same (empty_parameter_list k b) h = rw (low-kept k.op h) refl
record_same (math_at_end k) h = rw (low-kept k.op h) refl
record_same (math_without_parenthesis k) h = rw (low-kept k.op h) refl
record_same (leading_semicolon k) h = refl
record_same (empty_array_index k i) h = refl
record_same (binary_at_end k) h = rw (low-kept k.op h) refl
record_same (negate_without_operand k) h = refl
record_same (not_without_operand k) h = refl
record_same (unknown_operation k p) h = rw (low-kept p.op h) refl
record_same (unary_without_operand k) h = rw (low-kept k.op h) refl
record_same (ternary_without_operands k) h = rw (low-kept k.op h) refl

records-same : (ms : List Message) → AllLow ms → record_words (messages_of with_this ms) ≡ record_words ms
unfolding record_words messages_of
records-same [] h = refl
records-same (m ∷ ms) h = rw (record_same m h.0, records-same ms h.1) refl

-- ---- A word

-- A word of kind 1 and the same word with 76 put in for a host.
record Exchanged (w x : ℕ) : Type 0 where
  kind : kind_of x ≡ 1
  number : number_in (low_of x) ≡ as_operator (number_in (low_of w))
  variant : low_of x / 2 ^ 8 % 2 ^ 4 ≡ low_of w / 2 ^ 8 % 2 ^ 4
  above : low_of x / 2 ^ 16 ≡ low_of w / 2 ^ 16

-- The number's own bits.
number-bits : (low : ℕ) → operator_bits (number_in low) 0 ≡ low / 2 ^ 12 % 2 ^ 4 * 2 ^ 12 + low % 2 ^ 8
unfolding operator_bits number_in
number-bits low =
    let upper : (low / 2 ^ 12 % 2 ^ 4 * 2 ^ 8 + low % 2 ^ 8) / 2 ^ 8 ≡ low / 2 ^ 12 % 2 ^ 4 = omega arith in
    let lower : (low / 2 ^ 12 % 2 ^ 4 * 2 ^ 8 + low % 2 ^ 8) % 2 ^ 8 ≡ low % 2 ^ 8 = omega arith in
    rw (upper, lower) (omega arith)

-- A host's word is of kind 1 and has a host's number.
host-kind : (w : ℕ) → is_host_word w ≡ true → kind_of w ≡ 1
host-kind w h = unfold is_host_word in eqb-true (kind_of w) 1 (both (eqb (kind_of w) 1) (is_host (number_in (low_of w))) h).0

host-number : (w : ℕ) → is_host_word w ≡ true → is_host (number_in (low_of w)) ≡ true
host-number w h = unfold is_host_word in (both (eqb (kind_of w) 1) (is_host (number_in (low_of w))) h).1

-- Another word of kind 1 has none, and a word of another kind is no host's.
other-number-in : (w : ℕ) → kind_of w ≡ 1 → is_host_word w ≡ false → is_host (number_in (low_of w)) ≡ false
other-number-in w one h = unfold is_host_word in rw (one) at h

host-is : (w : ℕ) → kind_of w ≡ 1 → is_host (number_in (low_of w)) ≡ true → is_host_word w ≡ true
host-is w one h = unfold is_host_word in rw (one, h) refl

host-not : (w : ℕ) → is_host (number_in (low_of w)) ≡ false → is_host_word w ≡ false
host-not w h = unfold is_host_word in rw (h, and-false) refl

other-kind : (w kind : ℕ) → kind_of w ≡ kind → eqb kind 1 ≡ false → is_host_word w ≡ false
other-kind w kind e f = unfold is_host_word in rw (e, f) refl

-- The word of kind 1 with 76, variant v and h above bit 15.
unfoldable this_bits : ℕ → ℕ → ℕ
this_bits h v = 2 ^ 29 + (h * 2 ^ 16 + v * 2 ^ 8 + Operator.this)

host-written : (w : ℕ) → is_host_word w ≡ true → with_this_word w ≡ w - operator_bits (number_in (low_of w)) 0 + operator_bits Operator.this 0
host-written w h = unfold with_this_word in rw (h, with_this_word) refl

-- The low bits in four parts, two of which are taken away.
four-parts : (low : ℕ) → low ≡ low / 2 ^ 16 * 2 ^ 16 + low / 2 ^ 12 % 2 ^ 4 * 2 ^ 12 + low / 2 ^ 8 % 2 ^ 4 * 2 ^ 8 + low % 2 ^ 8
four-parts low =
    let a : low ≡ low / 2 ^ 8 * 2 ^ 8 + low % 2 ^ 8 = omega arith in
    let b : low / 2 ^ 8 ≡ low / 2 ^ 12 * 2 ^ 4 + low / 2 ^ 8 % 2 ^ 4 = omega arith in
    let c : low / 2 ^ 12 ≡ low / 2 ^ 16 * 2 ^ 4 + low / 2 ^ 12 % 2 ^ 4 = omega arith in
    a ∙ joined (low / 2 ^ 8) (low / 2 ^ 12) (low / 2 ^ 16) (low / 2 ^ 8 % 2 ^ 4) (low / 2 ^ 12 % 2 ^ 4) (low % 2 ^ 8) b c
  where
    joined : (x y z v u r : ℕ) → x ≡ y * 2 ^ 4 + v → y ≡ z * 2 ^ 4 + u → x * 2 ^ 8 + r ≡ z * 2 ^ 16 + u * 2 ^ 12 + v * 2 ^ 8 + r
    joined x y z v u r e f = omega arith

taken-away : (w h u v r : ℕ) → w ≡ 2 ^ 29 + (h + u + v + r) → w - (u + r) + Operator.this ≡ 2 ^ 29 + (h + v + Operator.this)
taken-away w h u v r e = omega arith

host-bits : (w : ℕ) → kind_of w ≡ 1
    → w - (low_of w / 2 ^ 12 % 2 ^ 4 * 2 ^ 12 + low_of w % 2 ^ 8) + operator_bits Operator.this 0
    ≡ this_bits (low_of w / 2 ^ 16) (low_of w / 2 ^ 8 % 2 ^ 4)
unfolding operator_bits this_bits word
host-bits w e =
    let low = low_of w in
    let whole : w ≡ 2 ^ 29 + low = sym (word_back 1 w e) ∙ omega arith in
    let parts = four-parts low in
    taken-away w (low / 2 ^ 16 * 2 ^ 16) (low / 2 ^ 12 % 2 ^ 4 * 2 ^ 12) (low / 2 ^ 8 % 2 ^ 4 * 2 ^ 8) (low % 2 ^ 8)
    (whole ∙ ap (λ (x : ℕ). 2 ^ 29 + x) parts)

host-word : (w : ℕ) → is_host_word w ≡ true → with_this_word w ≡ this_bits (low_of w / 2 ^ 16) (low_of w / 2 ^ 8 % 2 ^ 4)
host-word w h =
    host-written w h
    ∙ ap (λ (bits : ℕ). w - bits + operator_bits Operator.this 0) (number-bits (low_of w)) ∙ host-bits w (host-kind w h)

other_word : (w : ℕ) → is_host_word w ≡ false → with_this_word w ≡ w
other_word w h = unfold with_this_word in rw (h, with_this_word) refl

kind-unhosted : (w kind : ℕ) → kind_of w ≡ kind → eqb kind 1 ≡ false → with_this_word w ≡ w
kind-unhosted w kind e f = other_word w (other-kind w kind e f)

this-kind : (h v : ℕ) → h < 2 ^ 13 → v < 2 ^ 4 → kind_of (this_bits h v) ≡ 1
this-kind h v a b = unfold kind_of this_bits in omega arith

this-low : (h v : ℕ) → h < 2 ^ 13 → v < 2 ^ 4 → low_of (this_bits h v) ≡ h * 2 ^ 16 + v * 2 ^ 8 + Operator.this
this-low h v a b = unfold low_of this_bits in omega arith

this-number : (h v : ℕ) → v < 2 ^ 4 → number_in (h * 2 ^ 16 + v * 2 ^ 8 + Operator.this) ≡ Operator.this
unfolding number_in
this-number h v b =
    let upper : (h * 2 ^ 16 + v * 2 ^ 8 + Operator.this) / 2 ^ 12 % 2 ^ 4 ≡ 0 = omega arith in
    let lower : (h * 2 ^ 16 + v * 2 ^ 8 + Operator.this) % 2 ^ 8 ≡ Operator.this = omega arith in
    rw (upper, lower) refl

above-bound : (w : ℕ) → low_of w / 2 ^ 16 < 2 ^ 13
above-bound w = unfold low_of in omega arith

exchanged : (w : ℕ) → kind_of w ≡ 1 → Exchanged w (with_this_word w)
exchanged w one =
    Booleans.either (is_host_word w)
    (λ t.
    let h = low_of w / 2 ^ 16 in
    let v = low_of w / 2 ^ 8 % 2 ^ 4 in
    let a : h < 2 ^ 13 = above-bound w in
    let b : v < 2 ^ 4 = omega arith in
    let is = host-word w t in
    let low = ap low_of is ∙ this-low h v a b in
    record {
      kind = ap kind_of is ∙ this-kind h v a b;
      number = ap number_in low ∙ this-number h v b ∙ sym (this-for (number_in (low_of w)) (rw (host-number w t, or-true) refl));
      variant = rw low (omega arith);
      above = rw low (omega arith);
    })
    (λ f.
    let is = other_word w f in
    record {
      kind = ap kind_of is ∙ one;
      number = ap (λ (x : ℕ). number_in (low_of x)) is ∙ sym (other-as (number_in (low_of w)) (other-number-in w one f));
      variant = ap (λ (x : ℕ). low_of x / 2 ^ 8 % 2 ^ 4) is;
      above = ap (λ (x : ℕ). low_of x / 2 ^ 16) is;
    })

-- 76 is an operator as much as a host.
operator-same : (n : ℕ) → is_operator (as_operator n) ≡ is_operator n
unfolding is_operator
operator-same n =
    Booleans.either (is_host n) (λ t. ap is_operator (host-as n t) ∙ sym (rw (t, or-true) refl)) (λ f. ap is_operator (other-as n f))

room-same : (x y : ℕ) → x / 2 ^ 16 ≡ y / 2 ^ 16 → ltb x (2 ^ 16) ≡ ltb y (2 ^ 16)
room-same x y e =
    Booleans.either (ltb y (2 ^ 16)) (λ t. lt-ltb x (2 ^ 16) (omega (arith, ltb-true y (2 ^ 16) t)) ∙ sym t)
    (λ f. le-ltb x (2 ^ 16) (omega (arith, ltb-false y (2 ^ 16) f)) ∙ sym f)

-- ---- The words of a list

wrong-kind : (field : Field) (v w : ℕ) → eqb (kind_of w) (field_kind field) ≡ false → word_fault field v w ≡ some 8
wrong-kind field v w e = unfold word_fault first_of must in rw e refl

operator-fault : (v w : ℕ) → word_fault operator_field v (with_this_word w) ≡ word_fault operator_field v w
unfolding word_fault field_kind low_fault
operator-fault v w =
    Booleans.either (eqb (kind_of w) 1)
    (λ t.
    let one = eqb-true (kind_of w) 1 t in
    let x = exchanged w one in
    rw (x.kind, one, x.number, x.variant, operator-same (number_in (low_of w)), room-same _ _ x.above) refl)
    (λ f. ap (word_fault operator_field v) (kind-unhosted w (kind_of w) refl f))

-- Where no operator is expected, a host's word and 76's are of the wrong kind.
other-fault : (field : Field) (v w : ℕ) → eqb 1 (field_kind field) ≡ false → word_fault field v (with_this_word w) ≡ word_fault field v w
other-fault field v w d =
    Booleans.either (is_host_word w)
    (λ t.
    let one = host-kind w t in
    wrong-kind field v (with_this_word w) (rw (exchanged w one).kind d) ∙ sym (wrong-kind field v w (rw one d)))
    (λ f. ap (word_fault field v) (other_word w f))

fault-same : (field : Field) (v w : ℕ) → word_fault field v (with_this_word w) ≡ word_fault field v w
unfolding field_kind
fault-same operator_field v w = operator-fault v w
fault-same start_field v w = other-fault start_field v w refl
fault-same end_field v w = other-fault end_field v w refl
fault-same upper_field v w = other-fault upper_field v w refl
fault-same lower_field v w = other-fault lower_field v w refl
fault-same count_field v w = other-fault count_field v w refl
fault-same close_field v w = other-fault close_field v w refl

variant-same : (field : Field) (v w : ℕ) → variant_after field v (with_this_word w) ≡ variant_after field v w
unfolding variant_after
variant-same operator_field v w =
    Booleans.either (eqb (kind_of w) 1) (λ t. (exchanged w (eqb-true (kind_of w) 1 t)).variant)
    (λ f. ap (λ (x : ℕ). low_of x / 2 ^ 8 % 2 ^ 4) (kind-unhosted w (kind_of w) refl f))
variant-same start_field v w = refl
variant-same end_field v w = refl
variant-same upper_field v w = refl
variant-same lower_field v w = refl
variant-same count_field v w = refl
variant-same close_field v w = refl

words_same : (i : ℕ) (field : Field) (v : ℕ) (ws : List ℕ) → words_refusal i field v (map with_this_word ws) ≡ words_refusal i field v ws
unfolding words_refusal
words_same i field v [] = refl
words_same i field v (w ∷ ws) =
    rw (fault-same field v w, variant-same field v w, words_same (suc i) (next_in_token field) (variant_after field v w) ws) refl

-- A token of five words without fault.
five-exchanged : (a b c d e : ℕ) → kind_of a ≡ 1 → token_of (with_this_word a) b c d e ≡ with_this (token_of a b c d e)
five-exchanged a b c d e one = unfold token_of with_this renamed in let x = exchanged a one in rw (x.number, x.variant) refl

tokens-exchanged : (i v : ℕ) (ws : List ℕ) → words_refusal i operator_field v ws ≡ none
    → tokens_of (map with_this_word ws) ≡ tokens_for with_this (tokens_of ws)
unfolding tokens_of tokens_for next_in_token variant_after field_kind
tokens-exchanged i v [] h = refl
tokens-exchanged i v (a ∷ []) h = refl
tokens-exchanged i v (a ∷ b ∷ []) h = refl
tokens-exchanged i v (a ∷ b ∷ c ∷ []) h = refl
tokens-exchanged i v (a ∷ b ∷ c ∷ d ∷ []) h = refl
tokens-exchanged i v (a ∷ b ∷ c ∷ d ∷ e ∷ ws) h =
    let u = low_of a / 2 ^ 8 % 2 ^ 4 in
    let ra = next_word i operator_field v a (b ∷ c ∷ d ∷ e ∷ ws) h in
    let rb = next_word (suc i) start_field u b (c ∷ d ∷ e ∷ ws) ra.1 in
    let rc = next_word (suc (suc i)) end_field u c (d ∷ e ∷ ws) rb.1 in
    let rd = next_word (suc (suc (suc i))) upper_field u d (e ∷ ws) rc.1 in
    let re = next_word (suc (suc (suc (suc i)))) lower_field u e ws rd.1 in
    rw (
      kind-unhosted b 2 (word-faultless start_field u b rb.0).0 refl,
      kind-unhosted c 3 (word-faultless end_field u c rc.0).0 refl,
      kind-unhosted d 4 (word-faultless upper_field u d rd.0).0 refl,
      kind-unhosted e 5 (word-faultless lower_field u e re.0).0 refl,
      five-exchanged a b c d e (word-faultless operator_field v a ra.0).0,
      tokens-exchanged (suc (suc (suc (suc (suc i))))) u ws re.1,
    ) refl

-- ---- The words of a tree

put-in : (n v : ℕ) → word 1 (operator_bits n v) - operator_bits n 0 + operator_bits Operator.this 0 ≡ word 1 (operator_bits Operator.this v)
put-in n v = unfold word operator_bits in omega arith

operator-word : (n v : ℕ) → is_operator n ≡ true → v < 2 ^ 4
    → with_this_word (word 1 (operator_bits n v)) ≡ word 1 (operator_bits (as_operator n) v)
operator-word n v h b =
    let few : n < 2 ^ 12 = omega (arith, operator-small n h) in
    let room : operator_bits n v < 2 ^ 29 = omega (arith, bits-room n v few b) in
    let kind = kind-word 1 (operator_bits n v) room in
    let number : number_in (low_of (word 1 (operator_bits n v))) ≡ n = rw (low_word 1 (operator_bits n v) room) (bits-number n v few b) in
    Booleans.either (is_host n) (λ t. put_in kind number t) (λ f. left kind number f)
  where
    w : ℕ
    w = word 1 (operator_bits n v)

    put_in : kind_of w ≡ 1 → number_in (low_of w) ≡ n → is_host n ≡ true → with_this_word w ≡ word 1 (operator_bits (as_operator n) v)
    put_in kind number t =
        host-written w (host-is w kind (ap is_host number ∙ t)) ∙ rw (number, host-as n t) (put-in n v)

    left : kind_of w ≡ 1 → number_in (low_of w) ≡ n → is_host n ≡ false → with_this_word w ≡ word 1 (operator_bits (as_operator n) v)
    left kind number f = other_word w (host-not w (ap is_host number ∙ f)) ∙ rw (other-as n f) refl

token_words-this : (k : Token) → Legal k → token_words (with_this k) ≡ map with_this_word (token_words k)
unfolding token_words with_this renamed
token_words-this k h =
    let upper : k.value / 2 ^ 16 < 2 ^ 29 = omega (arith, h.value) in
    let lower : k.value % 2 ^ 16 < 2 ^ 29 = omega arith in
    rw (
      operator-word k.op k.variant h.op (omega (arith, h.variant)),
      kind-unhosted (word 2 k.start) 2 (kind-word 2 k.start h.start) refl,
      kind-unhosted (word 3 k.end) 3 (kind-word 3 k.end h.end) refl,
      kind-unhosted (word 4 (k.value / 2 ^ 16)) 4 (kind-word 4 (k.value / 2 ^ 16) upper) refl,
      kind-unhosted (word 5 (k.value % 2 ^ 16)) 5 (kind-word 5 (k.value % 2 ^ 16) lower) refl,
    ) refl

node_words-this : (k : Token) (n : ℕ) → Legal k → n < 2 ^ 14 → node_words_of (with_this k) n ≡ map with_this_word (node_words_of k n)
unfolding node_words_of with_this renamed
node_words-this k n h few =
    rw (
      map-append with_this_word (token_words k) (word 6 n ∷ word 7 k.close ∷ []),
      ← token_words-this k h,
      kind-unhosted (word 6 n) 6 (kind-word 6 n (omega arith)) refl,
      kind-unhosted (word 7 k.close) 7 (kind-word 7 k.close h.close) refl,
    ) refl

-- THE TREE WITH 76 HAS THE SAME WORDS with 76 put in.
tree_words-this : {f : Forest} → LegalTrees f → tree_words (relabelled with_this f) ≡ map with_this_word (tree_words f)
unfolding tree_words relabelled
tree_words-this no_trees = refl
tree_words-this (legal_tree {k = k} {cs = cs} {rest = rest} h few below after) =
    rw (
      rel-count with_this cs,
      node_words-this k (count cs) h few,
      tree_words-this below,
      tree_words-this after,
      map-append with_this_word (node_words_of k (count cs)) (tree_words cs ++ tree_words rest),
      map-append with_this_word (tree_words cs) (tree_words rest),
    ) refl

-- ---- The entry

open-same : (depth n : ℕ) → open_after depth (as_operator n) ≡ open_after depth n
unfolding open_after is_closer all_named is_named
open-same depth n =
    ap (λ (o : Option ℕ). by o (is_closer (as_operator n))) (closing-seen (this-seen n))
    ∙ ap (by (closing_of n)) (one_of-seen (Operator.right_brace ∷ Operator.right_bracket ∷ Operator.right_parenthesis ∷ []) refl (this-seen n))
  where
    by : Option ℕ → Bool → ℕ
    by o b = elim o [ some c ↦ suc depth | none ↦ elim b [ true ↦ depth - 1 | false ↦ depth ] ]

above_same : (limit i depth : ℕ) (ks : List Token) → first_above limit i depth (tokens_for with_this ks) ≡ first_above limit i depth ks
unfolding first_above tokens_for with_this renamed
above_same limit i depth [] = refl
above_same limit i depth (k ∷ ks) = rw (open-same depth k.op, above_same limit (suc i) (open_after depth k.op) ks) refl

deep-same : (limit : ℕ) (ks : List Token) → too_deep limit (tokens_for with_this ks) ≡ too_deep limit ks
deep-same limit ks = unfold too_deep in above_same limit 0 0 ks

-- The last row is asked where the words are not refused.
then_same : (o x y : Option Refusal) → (o ≡ none → x ≡ y) → first_of (o ∷ x ∷ []) ≡ first_of (o ∷ y ∷ [])
unfolding first_of
then_same none x y h = rw (h refl) refl
then_same (some r) x y h = refl

lengths-same : (c : Call) → length_rows (hostless c) ≡ length_rows c
lengths-same c = unfold length_rows hostless in rw (length-map c.list with_this_word) refl

values_same : (c : Call) → first_of (value_rows (hostless c)) ≡ first_of (value_rows c)
unfolding value_rows hostless
values_same c =
    rw (words_same 0 operator_field 0 c.list)
    (behind _ _ _ (behind _ _ _ (behind _ _ _
    (then_same (words_refusal 0 operator_field 0 c.list) _ _
    (λ e. rw (tokens-exchanged 0 0 c.list e, deep-same c.limit (tokens_of c.list)) refl)))))

-- The tables' values stand behind the same lengths.
refusal-same : (rules : Option (List ℕ)) (c : Call) → (left rules (hostless c)).turned ≡ (left rules c).turned
unfolding left refusal rule_refusal
refusal-same none c =
    rw (lengths-same c) (in_parts (length_rows c) _ ∙ behind _ _ _ (values_same c) ∙ sym (in_parts (length_rows c) _))
refusal-same (some rules) c =
    rw (lengths-same c, same_length) (in_parts (length_rows c) _
    ∙ behind _ _ _ (behind _ _ _ (values_same c)) ∙ sym (in_parts (length_rows c) _))
  where
    same_length : length (hostless c).list ≡ length c.list
    same_length = unfold hostless in length-map c.list with_this_word

reading-this : (c : Call) → refusal c ≡ none → reading (hostless c) ≡ answer_of with_this (reading c)
unfolding reading hostless
reading-this c e =
    rw (tokens-exchanged 0 0 c.list (call-accepted c e).words) (reads-as-this (tokens_of c.list) _ c.version c.source_length)

reading-low : (c : Call) → AnswerLow (reading c)
reading-low c = unfold reading in read_low (tokens_of c.list) _ c.version c.source_length

reading-legal : (c : Call) (k : Token) (cs : Forest) → refusal c ≡ none → reading c ≡ tree k cs → LegalTrees (node k cs nil)
reading-legal c k cs e f = unfold reading in let a = call-accepted c e in read-legal _ _ _ _ k cs a.legal a.few f

reading-kept : (c : Call) (k : Token) (cs : Forest) → reading c ≡ tree k cs → host_nodes (node k cs nil) [] ≡ host_tokens (tokens_of c.list)
reading-kept c k cs e = unfold reading in read-hosts (tokens_of c.list) _ c.version c.source_length k cs e

-- What is told and left of a call that is not turned back, by its reading.
told-this : (a : Answer) → told none (answer_of with_this a) ≡ told none a
unfolding told answer_of relabelled
told-this (tree k cs) = ap a_tree (rel-size with_this (node k cs nil))
told-this (messages ms) = ap some_messages (this-messages ms)

messages-this : (a : Answer) (buffer : List ℕ) → AnswerLow a → messages_in none (answer_of with_this a) buffer ≡ messages_in none a buffer
unfolding messages_in answer_of
messages-this (tree k cs) buffer h = refl
messages-this (messages ms) buffer h = ap (λ (ws : List ℕ). in_front ws buffer) (records-same ms h)

tree-this : (a : Answer) (buffer : List ℕ) → ((k : Token) (cs : Forest) → a ≡ tree k cs → LegalTrees (node k cs nil))
    → tree_in none (answer_of with_this a) buffer ≡ in_front (map with_this_word (take (tree_told (told none a)) (tree_in none a buffer))) buffer
unfolding tree_in answer_of told tree_told relabelled
tree-this (messages ms) buffer h = unfold in_front in refl
tree-this (tree k cs) buffer h =
    rw (front-words (tree_words (node k cs nil)) buffer (7 * size (node k cs nil)) (tree_words-length (node k cs nil)))
    (ap (λ (ws : List ℕ). in_front ws buffer) (tree_words-this (h k cs refl)))

-- ---- The rules

rule-this : (n : ℕ) (k : Token) → with_rule n (with_this k) ≡ with_this (with_rule n k)
rule-this n k = unfold with_rule with_rule_number with_this renamed in pick with_this (eqb k.value 0) (eqb k.value 0) refl refl refl

ruled-this : (n : ℕ) (f : Forest) → ruled n (relabelled with_this f) ≡ relabelled with_this (ruled n f)
unfolding ruled relabelled
ruled-this n nil = refl
ruled-this n (node k nil rest) = ap (node (with_this k) nil) (ruled-this n rest)
ruled-this n (node k (node c cs more) rest) = rw (rule-this n k, ruled-this n (node c cs more), ruled-this n rest) refl

module _ (u : ℕ → Bool) where
  unfoldable after_ruling : Pass → List Pass → Result → Forest
  after_ruling p ps x = elim x [ ok g ↦ ruling u ps (ruled (rule_of p) g) | fail m ↦ nil ]

  after_ruling-this : (p : Pass) (ps : List Pass) (x : Result)
      → ((f : Forest) → ruling u ps (relabelled with_this f) ≡ relabelled with_this (ruling u ps f))
      → after_ruling p ps (result_of with_this x) ≡ relabelled with_this (after_ruling p ps x)
  unfolding after_ruling result_of relabelled
  after_ruling-this p ps (ok g) next = ap (ruling u ps) (ruled-this (rule_of p) g) ∙ next (ruled (rule_of p) g)
  after_ruling-this p ps (fail m) next = refl

  ruling-this : (ps : List Pass) → all_quiet ps ≡ true → (f : Forest)
      → ruling u ps (relabelled with_this f) ≡ relabelled with_this (ruling u ps f)
  unfolding ruling all_quiet after_ruling
  ruling-this [] h f = refl
  ruling-this (p ∷ ps) h f =
      let e = both (is_quiet p) (all_quiet ps) h in
      pick (relabelled with_this) (runs u p) (runs u p) refl
      (ap (after_ruling p ps) (apply-natural with_this unnoticed 0 p f e.0)
      ∙ after_ruling-this p ps (apply 0 p f) (λ g. ruling-this ps e.1 g))
      (ruling-this ps e.1 f)

rules-this : (f : Forest) → rules_in (relabelled with_this f) ≡ rules_in f
unfolding rules_in relabelled with_this renamed
rules-this nil = refl
rules-this (node k nil rest) = ap (λ (ns : List ℕ). 0 ∷ ns) (rules-this rest)
rules-this (node k (node c cs more) rest) = rw (rules-this (node c cs more), rules-this rest) refl

copied-this : (ks : List Token) → leaves (copied (tokens_for with_this ks)) ≡ relabelled with_this (leaves (copied ks))
unfolding copied unruled with_rule_number tokens_for leaves relabelled with_this renamed
copied-this [] = refl
copied-this (k ∷ ks) = ap (node (with_this (unruled k)) nil) (copied-this ks)

-- THE RULES ARE THOSE WITH 76.
rules_of-this : (ks : List Token) (u : ℕ → Bool) (version : ℤ) → rules_of (tokens_for with_this ks) u version ≡ rules_of ks u version
unfolding rules_of
rules_of-this ks u v =
    let quiet = order-quiet (rules v).comparisons_first (rules v).and_first (rules v).pairs_right in
    ap (λ (f : Forest). rules_in (ruling u (order (rules v)) f)) (copied-this ks)
    ∙ (ap rules_in (ruling-this u (order (rules v)) quiet (leaves (copied ks)))
    ∙ rules-this (ruling u (order (rules v)) (leaves (copied ks))))

rules_for-this : (a : Answer) (ns buffer : List ℕ) → rules_for none (answer_of with_this a) ns buffer ≡ rules_for none a ns buffer
unfolding rules_for answer_of
rules_for-this (tree k cs) ns buffer = refl
rules_for-this (messages ms) ns buffer = refl

-- ---- Both entries

rules_left-this : (rules : Option (List ℕ)) (c : Call) → refusal c ≡ none → rules_left rules none (hostless c) ≡ rules_left rules none c
unfolding rules_left hostless
rules_left-this none c e = refl
rules_left-this (some buffer) c e =
    rw (tokens-exchanged 0 0 c.list (call-accepted c e).words)
    (rw (rules_of-this (tokens_of c.list) (in_halves c.used_low c.used_high) c.version, reading-this c e)
    (rules_for-this (reading c) _ buffer))

comes-this : (rules : Option (List ℕ)) (o : Option Refusal) (c : Call) → (o ≡ none → refusal c ≡ none)
    → ReadsAsThis c (comes_to o c (rules_left rules o c)) (comes_to o (hostless c) (rules_left rules o (hostless c)))
unfolding comes_to rules_left told messages_in work_in tree_in tree_told in_front hostless rules_for
comes-this rules (some r) c e =
    record {
      same_refusal = refl;
      same_answer = refl;
      same_messages = refl;
      same_work = refl;
      same_rules = turned-rules rules;
      tree_with_this = refl;
      numbers_kept = reading-kept c;
    }
  where
    turned-rules : (rules : Option (List ℕ)) → rules_left rules (some r) (hostless c) ≡ rules_left rules (some r) c
    turned-rules none = refl
    turned-rules (some buffer) = refl
comes-this rules none c e =
    let reads = reading-this c (e refl) in
    record {
      same_refusal = refl;
      same_answer = ap (told none) reads ∙ told-this (reading c);
      same_messages = ap (λ (a : Answer). messages_in none a c.messages) reads ∙ messages-this (reading c) c.messages (reading-low c);
      same_work = refl;
      same_rules = rules_left-this rules c (e refl);
      tree_with_this = ap (λ (a : Answer). tree_in none a c.tree) reads
          ∙ tree-this (reading c) c.tree (λ k cs f. reading-legal c k cs (e refl) f);
      numbers_kept = reading-kept c;
    }

-- EVERY CALL OF EITHER ENTRY READS AS WITH 76 IN THE HOSTS' STEAD.
pub hostless-same : (rules : Option (List ℕ)) (c : Call) → ReadsAsThis c (left rules c) (left rules (hostless c))
hostless-same rules c =
    let turned = (left rules c).turned in
    let there : left rules (hostless c) ≡ comes_to turned (hostless c) (rules_left rules turned (hostless c)) =
    left-comes rules (hostless c)
    ∙ ap (λ (o : Option Refusal). comes_to o (hostless c) (rules_left rules o (hostless c))) (refusal-same rules c) in
    subst (λ (l : Left). ReadsAsThis c l (left rules (hostless c))) (sym (left-comes rules c))
    (subst (λ (l : Left). ReadsAsThis c (comes_to (left rules c).turned c (rules_left rules (left rules c).turned c)) l) (sym there)
    (comes-this rules (left rules c).turned c (λ e. either-accepted rules c e)))

-- ---- The write entry

-- EVERY WRITTEN LIST HAS 76 AND THE HOSTS IN THE TREE'S ORDER.
pub hosts-written : (w : WriteCall) → WritesHosts w
unfolding write_refusal written_tokens
hosts-written w count h =
    let accepted = write-of-told w count h in
    let whole = with_number-none 12 _ (first-none _ _ accepted).0 in
    let t = (tree-fault-none w.tree).0 whole in
    let trees = trees-of-tree t in
    rw trees (written-hosts t.root t.children (tree-wrote t.root t.children w whole trees accepted).plain)

-- `300 + this * 301`, all in one place: its tree has the three in the list's order, and the tree with the two hosts exchanged has not.
one_place : ℕ → Token
unfolding spanning
one_place o = spanning o 0 1

three_in : ℕ → ℕ → Forest
unfolding one_place
three_in first last =
    node (one_place Operator.add)
    (node (one_place first) nil
    (node (one_place Operator.mul) (node (one_place Operator.this) nil (node (one_place last) nil nil)) nil)) nil

three-kept : host_nodes (three_in 300 301) [] ≡ host_tokens
    (one_place 300 ∷ one_place Operator.add ∷ one_place Operator.this ∷ one_place Operator.mul ∷ one_place 301 ∷ [])
three-kept = unfold three_in host_nodes host_tokens host_before is_this_or_host is_host between in refl

three-are : host_nodes (three_in 300 301) [] ≡ one_place 300 ∷ one_place Operator.this ∷ one_place 301 ∷ []
three-are = unfold three_in host_nodes host_before is_this_or_host is_host between in refl

exchanged-not : host_nodes (three_in 301 300) [] ≡ host_nodes (three_in 300 301) [] → ⊥
unfolding three_in host_nodes host_before is_this_or_host is_host between spanning one_place
exchanged-not h =
    let tokens : ◌≡◌ {A = List Token} (one_place 301 ∷ one_place Operator.this ∷ one_place 300 ∷ [])
    (one_place 300 ∷ one_place Operator.this ∷ one_place 301 ∷ []) = h in
    let same : ◌≡◌ {A = ℕ} 301 300 = ap head_op tokens in omega arith
  where
    head_op : List Token → ℕ
    head_op [] = 0
    head_op (k ∷ ks) = k.op
