-- Messages 8 and 9 alone tell a payload, and no reading gives two of them; so the records of two readings that differ in payloads only
-- differ in one argument at most.
use Prim.Native.Nat.{ℕ, zero, suc, ◌+◌, ◌≤◌}
use mathlib.Core.{Path.{◌≡◌, refl, ap, sym, ◌∙◌}, Bool.{Bool, true}, List.{List, [], ◌∷◌, ◌++◌, append_assoc}}
use native.Mathlib.Omega.{arith}
use lib.{Dec.{eqb}, IntN.{ℤ}, ListN.{length, length-append}}
use Rattle.molang.specs.{Operator.{closing_of, is_closer}, Forest.{Token, Forest, nil, node, leaves}}
use Rattle.molang.specs.Message.{Message, multiple_roots, complex_must_end_with_semicolon, leading_member_accessor, closing_mismatch}
use Rattle.molang.specs.Message.{section_not_closed, no_closing_symbol, empty_parameter_list, math_at_end, math_without_parenthesis}
use Rattle.molang.specs.Message.{leading_semicolon, empty_array_index, binary_at_end, negate_without_operand, not_without_operand}
use Rattle.molang.specs.Message.{unknown_operation, unary_without_operand, ternary_without_operands, Result, ok, fail, host_value, closer}
use Rattle.molang.specs.Message.{record8, about, message_record}
use Rattle.molang.specs.Sections.{Open, outside, section, position, Walked, going, mismatch, closing, bracket, closed, sections}
use Rattle.molang.specs.Order.{rules, Pass, last_token, member_accessors, sectioning, apply}
use Rattle.molang.specs.{Read.{Answer, tree, messages, rooted, ends_reading, grouped, read}, Parse.{record_words}, Free.{flat}}
use Rattle.molang.specs.{Weight.{weight, nodes_of, node_weight}, Payloads.{ArgumentApart, equal_records, one_argument}}
use Rattle.molang.proofs.{Trees.{either, maybe, both}, Sections.{leaves-flat, members-light, sections-light, after_bracket}}
use Rattle.molang.proofs.Passes.{is_nested, apply-light, all_nested, grouped-nil}
use Rattle.molang.proofs.Bounds.{after_fail, pass-cases, ends-outcome, order-parts, record-length}
use Rattle.molang.proofs.{Relabelling.{message_of, messages_of}, OneName.{blank}}

-- ---- Which messages tell a payload

-- 1 where a message tells its token's payload, else 0.
unfoldable pub naming : Message → ℕ
naming (multiple_roots from to roots) = 0
naming (complex_must_end_with_semicolon from to) = 0
naming (leading_member_accessor k) = 0
naming (closing_mismatch o i k j) = 0
naming (section_not_closed o) = 0
naming (no_closing_symbol o i) = 0
naming (empty_parameter_list k b) = 0
naming (math_at_end k) = 1
naming (math_without_parenthesis k) = 1
naming (leading_semicolon k) = 0
naming (empty_array_index k i) = 0
naming (binary_at_end k) = 0
naming (negate_without_operand k) = 0
naming (not_without_operand k) = 0
naming (unknown_operation k p) = 0
naming (unary_without_operand k) = 0
naming (ternary_without_operands k) = 0

unfoldable pub namings : List Message → ℕ
namings [] = 0
namings (m ∷ ms) = naming m + namings ms

naming-one : (m : Message) → naming m ≤ 1
unfolding naming
naming-one (multiple_roots from to roots) = omega arith
naming-one (complex_must_end_with_semicolon from to) = omega arith
naming-one (leading_member_accessor k) = omega arith
naming-one (closing_mismatch o i k j) = omega arith
naming-one (section_not_closed o) = omega arith
naming-one (no_closing_symbol o i) = omega arith
naming-one (empty_parameter_list k b) = omega arith
naming-one (math_at_end k) = omega arith
naming-one (math_without_parenthesis k) = omega arith
naming-one (leading_semicolon k) = omega arith
naming-one (empty_array_index k i) = omega arith
naming-one (binary_at_end k) = omega arith
naming-one (negate_without_operand k) = omega arith
naming-one (not_without_operand k) = omega arith
naming-one (unknown_operation k p) = omega arith
naming-one (unary_without_operand k) = omega arith
naming-one (ternary_without_operands k) = omega arith

namings-few : (ms : List Message) → namings ms ≤ length ms
unfolding namings
namings-few [] = omega arith
namings-few (m ∷ ms) = omega (arith, naming-one m, namings-few ms)

namings-append : (ms ns : List Message) → namings (ms ++ ns) ≡ namings ms + namings ns
unfolding namings
namings-append [] ns = omega arith
namings-append (m ∷ ms) ns = omega (arith, namings-append ms ns)

-- ---- The two messages of the bracket step tell none

data Quiet : Result → Type 0 where
  silent : {m : List Message} → namings m ≡ 0 → Quiet (fail m)
  well : {g : Forest} → Quiet (ok g)

data QuietWalk : Walked → Type 0 where
  silent_walk : {m : List Message} → namings m ≡ 0 → QuietWalk (mismatch m)
  on_walk : {s : Open} → QuietWalk (going s)

closing-quiet : (k : Token) (cs : Forest) (i : ℕ) (s : Open) → QuietWalk (closing k cs i s)
unfolding closing naming namings
closing-quiet k cs i (outside d) = on_walk
closing-quiet k cs i (section o j d s) = either QuietWalk (eqb (closer o) k.op) _ _ on_walk (silent_walk refl)

bracket-quiet : (k : Token) (cs : Forest) (i : ℕ) (s : Open) → QuietWalk (bracket k cs i s)
unfolding bracket
bracket-quiet k cs i s =
    maybe QuietWalk (closing_of k.op) _ _ (λ c. on_walk) (either QuietWalk (is_closer k.op) _ _ (closing-quiet k cs i s) on_walk)

closed-quiet : (s : Open) → Quiet (closed s)
unfolding closed naming namings
closed-quiet (outside d) = well
closed-quiet (section o i d s) = silent refl

after_bracket-quiet : (i : ℕ) (rest : Forest) {x : Walked} → QuietWalk x → ((t : Open) → Quiet (sections i t rest))
    → Quiet (after_bracket i rest x)
unfolding after_bracket
after_bracket-quiet i rest (silent_walk e) next = silent e
after_bracket-quiet i rest (on_walk {s = t}) next = next t

sections-quiet : (i : ℕ) (s : Open) (f : Forest) → Quiet (sections i s f)
unfolding sections after_bracket
sections-quiet i s nil = closed-quiet s
sections-quiet i s (node k cs rest) =
    after_bracket-quiet (position i s) rest (bracket-quiet k cs (position i s) s) (λ t. sections-quiet (position i s) t rest)

quiet-fail : {m : List Message} → Quiet (fail m) → namings m ≡ 0
quiet-fail (silent e) = e

-- ---- A reading tells one payload at most

-- A tree, or messages of which one at most tells a payload.
pub data Once : Answer → Type 0 where
  no_messages : {k : Token} {cs : Forest} → Once (tree k cs)
  tell_one : {ms : List Message} → namings ms ≤ 1 → Once (messages ms)

module _ (source_length : ℕ) (u : ℕ → Bool) where
  one_told : (m : List Message) → length m ≡ 1 → Once (messages m)
  one_told m e = tell_one {ms = m} (omega (arith, namings-few m))

  rooted-once : (f : Forest) → Once (rooted source_length [] f)
  unfolding rooted
  rooted-once nil = one_told _ refl
  rooted-once (node k cs nil) = no_messages
  rooted-once (node k cs (node l ls rest)) = one_told _ refl

  nested-once : (ps : List Pass) (f : Forest) → all_nested ps ≡ true → Once (grouped source_length u ps [] f)
  unfolding grouped all_nested nodes_of after_fail namings naming
  nested-once [] f e = rooted-once f
  nested-once (p ∷ ps) f e =
      let i = both (is_nested p) (all_nested ps) e in
      pass-cases source_length u Once p ps f 1 _ (apply-light node_weight (omega arith) (omega arith) source_length p f i.0)
      (nested-once ps f i.1)
      (λ m is o. either Once (ends_reading p) _ _ (one_told m o)
      (rw (grouped-nil source_length u ps m i.1)
      (tell_one {ms = m ++ (multiple_roots 0 source_length 0 ∷ [])}
      (omega (arith, namings-few m, namings-append m (multiple_roots 0 source_length 0 ∷ []))))))
      (λ g w. nested-once ps g i.1)

  sections-once : (ps : List Pass) (f : Forest) → all_nested ps ≡ true → flat f ≡ true → Once (grouped source_length u (sectioning ∷ ps) [] f)
  unfolding apply after_fail ends_reading
  sections-once ps f e i =
      pass-cases source_length u Once sectioning ps f 2 _ (sections-light node_weight f i) (nested-once ps f e)
      (λ m is o. tell_one {ms = m} (omega (arith, quiet-fail (rw is at (sections-quiet 0 (outside nil) f)))))
      (λ g w. nested-once ps g e)

  members-once : (ps : List Pass) (ks : List Token) → all_nested ps ≡ true
      → Once (grouped source_length u (member_accessors ∷ sectioning ∷ ps) [] (leaves ks))
  unfolding apply after_fail ends_reading weight flat
  members-once ps ks e =
      pass-cases source_length u Once member_accessors (sectioning ∷ ps) (leaves ks) 1 _
      (members-light node_weight ks nil (weight node_weight (leaves ks)) (omega arith) refl)
      (sections-once ps (leaves ks) e (leaves-flat ks)) (λ m is o. one_told m o)
      (λ g w. sections-once ps g e w.1)

  flat-once : (ps : List Pass) (ks : List Token) → all_nested ps ≡ true
      → Once (grouped source_length u (last_token ∷ member_accessors ∷ sectioning ∷ ps) [] (leaves ks))
  unfolding apply after_fail ends_reading
  flat-once ps ks e =
      let later = members-once ps ks e in
      pass-cases source_length u Once last_token (member_accessors ∷ sectioning ∷ ps) (leaves ks) 1 _ (ends-outcome source_length (leaves ks))
      later (λ m is o. one_told m o) (λ g w. rw w later)

pub read-once : (tokens : List Token) (u : ℕ → Bool) (version : ℤ) (source_length : ℕ) → Once (read tokens u version source_length)
read-once ts u v l = unfold read in let p = order-parts (rules v) in rw p.1 (flat-once l u p.0 ts p.2)

-- ---- Their records

-- Whole records in front, words behind, more records to count.
record-in-front : {records : ℕ} {xs ys : List ℕ} (front : List ℕ) → length front ≡ 8 → ArgumentApart records xs ys
    → ArgumentApart (suc records) (front ++ xs) (front ++ ys)
record-in-front front n (equal_records e) = equal_records (ap (λ (l : List ℕ). front ++ l) e)
record-in-front front n (one_argument at h a p) =
    one_argument (8 + at) (omega arith) (omega arith)
    (record {
      front = front ++ p.front;
      word = p.word;
      other = p.other;
      behind = p.behind;
      first = ap (λ (l : List ℕ). front ++ l) p.first ∙ sym (append_assoc front p.front (p.word ∷ p.behind));
      second = ap (λ (l : List ℕ). front ++ l) p.second ∙ sym (append_assoc front p.front (p.other ∷ p.behind));
      index = omega (arith, length-append front p.front, p.index);
    })

pub records-before : {records : ℕ} {xs ys : List ℕ} (rest : List ℕ) → ArgumentApart records xs ys
    → ArgumentApart records (xs ++ rest) (ys ++ rest)
records-before rest (equal_records e) = equal_records (ap (λ (l : List ℕ). l ++ rest) e)
records-before rest (one_argument at h a p) =
    one_argument at h a
    (record {
      front = p.front;
      word = p.word;
      other = p.other;
      behind = p.behind ++ rest;
      first = ap (λ (l : List ℕ). l ++ rest) p.first ∙ append_assoc p.front (p.word ∷ p.behind) rest;
      second = ap (λ (l : List ℕ). l ++ rest) p.second ∙ append_assoc p.front (p.other ∷ p.behind) rest;
      index = p.index;
    })

of-more-records : {records more : ℕ} {xs ys : List ℕ} → records ≤ more → ArgumentApart records xs ys → ArgumentApart more xs ys
of-more-records b (equal_records e) = equal_records e
of-more-records b (one_argument at h a p) = one_argument at (omega arith) a p

-- Messages with payloads of their own put in.
module _ (φ ψ : Token → Token) (same : (k : Token) → blank (φ k) ≡ blank (ψ k)) where
  ops : (k : Token) → (ψ k).op ≡ (φ k).op
  ops k = unfold blank in ap (λ (t : Token). t.op) (sym (same k))

  starts : (k : Token) → (ψ k).start ≡ (φ k).start
  starts k = unfold blank in ap (λ (t : Token). t.start) (sym (same k))

  ends : (k : Token) → (ψ k).end ≡ (φ k).end
  ends k = unfold blank in ap (λ (t : Token). t.end) (sym (same k))

  -- The two records of a message: the same where it tells no payload, else with another second argument.
  record RecordTold (m : Message) : Type 0 where
    unnamed : naming m ≡ 0 → message_record (message_of ψ m) ≡ message_record (message_of φ m)
    apart : ArgumentApart 1 (message_record (message_of φ m)) (message_record (message_of ψ m))

  quiet : {m : Message} → naming m ≡ 0 → message_record (message_of ψ m) ≡ message_record (message_of φ m) → RecordTold m
  quiet n e = record { unnamed = λ z. e; apart = equal_records e }

  fourth-apart : (n : ℕ) (k : Token)
      → ArgumentApart 1 (about n (φ k) (φ k).op (host_value (φ k))) (about n (ψ k) (ψ k).op (host_value (ψ k)))
  unfolding about record8
  fourth-apart n k =
      one_argument 4 (omega arith) (omega arith)
      (record {
        front = n ∷ (φ k).start ∷ (φ k).end ∷ (φ k).op ∷ [];
        word = host_value (φ k);
        other = host_value (ψ k);
        behind = 0 ∷ 0 ∷ 0 ∷ [];
        first = refl;
        second = rw (starts k, ends k, ops k) refl;
        index = refl;
      })

  record-told : (m : Message) → RecordTold m
  unfolding naming message_of message_record record8 about closer
  record-told (multiple_roots from to roots) = quiet refl refl
  record-told (complex_must_end_with_semicolon from to) = quiet refl refl
  record-told (leading_member_accessor k) = quiet refl (rw (starts k, ends k) refl)
  record-told (closing_mismatch o i k j) = quiet refl (rw (starts o, ends k, ops o, ops k) refl)
  record-told (section_not_closed o) = quiet refl (rw (starts o, ends o, ops o) refl)
  record-told (no_closing_symbol o i) = quiet refl (rw (starts o, ends o, ops o) refl)
  record-told (empty_parameter_list k b) = quiet refl (rw (starts k, ends b, ops k) refl)
  record-told (math_at_end k) = record { unnamed = λ z. absurd (omega arith); apart = fourth-apart 8 k }
  record-told (math_without_parenthesis k) = record { unnamed = λ z. absurd (omega arith); apart = fourth-apart 9 k }
  record-told (leading_semicolon k) = quiet refl (rw (starts k, ends k) refl)
  record-told (empty_array_index k i) = quiet refl (rw (starts k, ends i) refl)
  record-told (binary_at_end k) = quiet refl (rw (starts k, ends k, ops k) refl)
  record-told (negate_without_operand k) = quiet refl (rw (starts k, ends k) refl)
  record-told (not_without_operand k) = quiet refl (rw (starts k, ends k) refl)
  record-told (unknown_operation k p) = quiet refl (rw (starts k, ends k, ops p) refl)
  record-told (unary_without_operand k) = quiet refl (rw (starts k, ends k, ops k) refl)
  record-told (ternary_without_operands k) = quiet refl (rw (starts k, ends k, ops k) refl)

  records-same : (ms : List Message) → namings ms ≡ 0 → record_words (messages_of ψ ms) ≡ record_words (messages_of φ ms)
  unfolding record_words messages_of namings
  records-same [] n = refl
  records-same (m ∷ ms) n = rw ((record-told m).unnamed (omega arith), records-same ms (omega arith)) refl

  -- Records that tell one payload at most are apart in one argument at most.
  pub records-apart : (ms : List Message) → namings ms ≤ 1
      → ArgumentApart (length ms) (record_words (messages_of φ ms)) (record_words (messages_of ψ ms))
  unfolding record_words messages_of namings
  records-apart [] n = equal_records refl
  records-apart (m ∷ ms) n = by (naming m) refl (records-apart ms)
    where
      by : (a : ℕ) → naming m ≡ a
          → (namings ms ≤ 1 → ArgumentApart (length ms) (record_words (messages_of φ ms)) (record_words (messages_of ψ ms)))
          → ArgumentApart (suc (length ms)) (message_record (message_of φ m) ++ record_words (messages_of φ ms))
          (message_record (message_of ψ m) ++ record_words (messages_of ψ ms))
      by zero a later =
          rw ((record-told m).unnamed a)
          (record-in-front (message_record (message_of φ m)) (record-length (message_of φ m)) (later (omega arith)))
      by (suc a) b later =
          rw (records-same ms (omega arith))
          (of-more-records (omega arith) (records-before (record_words (messages_of φ ms)) (record-told m).apart))

-- Payloads that are put in change no message's number.
module _ (φ : Token → Token) where
  kept : (m : Message) → naming (message_of φ m) ≡ naming m
  unfolding naming message_of
  kept (multiple_roots from to roots) = refl
  kept (complex_must_end_with_semicolon from to) = refl
  kept (leading_member_accessor k) = refl
  kept (closing_mismatch o i k j) = refl
  kept (section_not_closed o) = refl
  kept (no_closing_symbol o i) = refl
  kept (empty_parameter_list k b) = refl
  kept (math_at_end k) = refl
  kept (math_without_parenthesis k) = refl
  kept (leading_semicolon k) = refl
  kept (empty_array_index k i) = refl
  kept (binary_at_end k) = refl
  kept (negate_without_operand k) = refl
  kept (not_without_operand k) = refl
  kept (unknown_operation k p) = refl
  kept (unary_without_operand k) = refl
  kept (ternary_without_operands k) = refl

  pub namings-kept : (ms : List Message) → namings (messages_of φ ms) ≡ namings ms
  unfolding namings messages_of
  namings-kept [] = refl
  namings-kept (m ∷ ms) = omega (arith, kept m, namings-kept ms)
