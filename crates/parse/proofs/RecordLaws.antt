-- The records of the failures: put together argument by argument, and which messages' records they are, since a slot's words give its token
-- back.
use Prim.Native.Nat.{ℕ, ◌+◌, ◌%◌, ◌≤◌}
use mathlib.Core.{Path.{◌≡◌, refl, sym, ap, ◌∙◌, subst}, Bool.{Bool, true, false}, List.{List}, Option.{get_or}}
use native.Mathlib.Omega.{arith}
use lib.{Dec.{eqb, leb}, ListN.{length, get_or-eq_default}}
use borrow.Author.Tests.{eq-eqb, ne_eqb, leb-true, leb-false}
use Rattle.molang.specs.{Operator.{closing_of}, Forest.{Token}}
use Rattle.molang.specs.{Message.{Message, message_record, host_math_variant, host_value, closer, record8, about}, Words.{word}}
use Rattle.molang.specs.Parse.{record_words}
use Rattle.words.specs.{Fields.{variant_of}, Records.{with_first, with_last, words_of}, declared.records.Record.{Record}}
use Rattle.nodes.specs.Store.{slot_start, operator_word_at, value_word_at, close_word_at, TokenAt}
use Rattle.nodes.proofs.Tokens.{value-word, close-word, token-op, token-variant, token-start, token_end}
use Rattle.levels.specs.Failures.{Tells, leading_member_accessor, empty_parameter_list, math_at_end, math_without_parenthesis, leading_semicolon}
use Rattle.levels.specs.Failures.{empty_array_index, binary_at_end, negate_without_operand, not_without_operand, unknown_operation}
use Rattle.levels.specs.{Failures.{unary_without_operand, ternary_without_operands}, declared.failure.Failure.{Failure}}
use Rattle.grouping.specs.Grouped.{Says, tells, not_ended, without_tokens}
use Rattle.parse.specs.Records.{Within, host_at, closer_at, Named, record_for}

-- ---- records argument by argument

pub with_first_lem : {r a b : Record} {x x' y y' : ℕ} → r ≡ with_first a x y → a ≡ b → x ≡ x' → y ≡ y' → r ≡ with_first b x' y'
with_first_lem e f g h = e ∙ (λ i. with_first (f i) (g i) (h i))

pub with-last : {r a b : Record} {x x' y y' z z' : ℕ} → r ≡ with_last a x y z → a ≡ b → x ≡ x' → y ≡ y' → z ≡ z' → r ≡ with_last b x' y' z'
with-last e f g h k = e ∙ (λ i. with_last (f i) (g i) (h i) (k i))

-- the closer of an operator that was read
pub closer-read : {r o o' : ℕ} → r ≡ get_or (closing_of o) 0 → o ≡ o' → r ≡ get_or (closing_of o') 0
closer-read e f = e ∙ ap (λ (o : ℕ). get_or (closing_of o) 0) f

pub named-at : (W : List ℕ) {f g : Failure} → f ≡ g → Named W f → Named W g
named-at W e h = subst (λ (f : Failure). Named W f) e h

-- ---- a slot's host value

pub no-host : (W : List ℕ) (s v : ℕ) → v ≡ variant_of (operator_word_at W s) → (v ≡ host_math_variant → ⊥) → ◌≡◌ {A = ℕ} 0 (host_at W s)
no-host W s v e h = unfold host_at in rw (host_at, ne_eqb (variant_of (operator_word_at W s)) host_math_variant (λ z. h (e ∙ z)))

pub a-host : (W : List ℕ) (s v r : ℕ) → v ≡ variant_of (operator_word_at W s) → v ≡ host_math_variant
    → r ≡ value_word_at W s → r ≡ host_at W s
a-host W s v r e h f = unfold host_at in rw (host_at, eq-eqb (variant_of (operator_word_at W s)) host_math_variant (sym e ∙ h)) f

-- ---- a slot's token

module _ {W : List ℕ} {s : ℕ} {k : Token} (t : TokenAt W s k) where
  -- Words after the last are 0, which the word of where a token closes is not.
  pub slot-within : length W % 8 ≡ 0 → Within W s
  unfolding word
  slot-within whole = go (leb (length W) (slot_start s + 4)) refl
    where
      go : (b : Bool) → leb (length W) (slot_start s + 4) ≡ b → Within W s
      go true e =
          let past : close_word_at W s ≡ 0 = get_or-eq_default W 0 (leb-true (length W) (slot_start s + 4) e) in
          absurd (omega (arith, close-word t))
      go false e = let long = leb-false (length W) (slot_start s + 4) e in omega arith

  host-token : host_at W s ≡ host_value k
  host-token = unfold host_at host_value in λ i. elim (eqb (token-variant t i) host_math_variant) [ true ↦ value-word t i | false ↦ 0 ]

  pub closer-token : closer_at W s ≡ closer k
  closer-token = unfold closer in ap (λ (o : ℕ). get_or (closing_of o) 0) (token-op t)

-- ---- the messages

pub says-slots : {W : List ℕ} {source_length : ℕ} {f : Failure} {ms : List Message} → Says W source_length f ms → length W % 8 ≡ 0
    → 8 ≤ length W → Named W f
says-slots (tells (leading_member_accessor t)) h l = (slot-within t h, slot-within t h)
says-slots (tells (empty_parameter_list t u)) h l = (slot-within t h, slot-within u h)
says-slots (tells (math_at_end t)) h l = (slot-within t h, slot-within t h)
says-slots (tells (math_without_parenthesis t)) h l = (slot-within t h, slot-within t h)
says-slots (tells (leading_semicolon t)) h l = (slot-within t h, slot-within t h)
says-slots (tells (empty_array_index t u)) h l = (slot-within t h, slot-within u h)
says-slots (tells (binary_at_end t)) h l = (slot-within t h, slot-within t h)
says-slots (tells (negate_without_operand t)) h l = (slot-within t h, slot-within t h)
says-slots (tells (not_without_operand t)) h l = (slot-within t h, slot-within t h)
says-slots (tells (unknown_operation t u)) h l = (slot-within t h, slot-within u h)
says-slots (tells (unary_without_operand t)) h l = (slot-within t h, slot-within t h)
says-slots (tells (ternary_without_operands t)) h l = (slot-within t h, slot-within t h)
says-slots (not_ended t) h l = (slot-within t h, slot-within t h)
says-slots without_tokens h l = (l, l)

tells-words : (W : List ℕ) (source_length : ℕ) {f : Failure} {ms : List Message} → Tells W f ms
    → words_of (record_for W source_length f) ≡ record_words ms
unfolding words_of record_words message_record about record8
tells-words W l (leading_member_accessor t) = rw (token-start t, token_end t)
tells-words W l (empty_parameter_list t u) = rw (token-start t, token_end u, token-op t)
tells-words W l (math_at_end t) = rw (token-start t, token_end t, token-op t, host-token t)
tells-words W l (math_without_parenthesis t) = rw (token-start t, token_end t, token-op t, host-token t)
tells-words W l (leading_semicolon t) = rw (token-start t, token_end t)
tells-words W l (empty_array_index t u) = rw (token-start t, token_end u)
tells-words W l (binary_at_end t) = rw (token-start t, token_end t, token-op t)
tells-words W l (negate_without_operand t) = rw (token-start t, token_end t)
tells-words W l (not_without_operand t) = rw (token-start t, token_end t)
tells-words W l (unknown_operation t u) = rw (token-start t, token_end t, token-op u)
tells-words W l (unary_without_operand t) = rw (token-start t, token_end t, token-op t)
tells-words W l (ternary_without_operands t) = rw (token-start t, token_end t, token-op t)

pub says-words : (W : List ℕ) (source_length : ℕ) {f : Failure} {ms : List Message} → Says W source_length f ms
    → words_of (record_for W source_length f) ≡ record_words ms
unfolding words_of record_words message_record about record8
says-words W l (tells t) = tells-words W l t
says-words W l (not_ended t) = rw (token-start t, token_end t)
says-words W l without_tokens = refl

-- A failure is one message.
pub tells-one : {W : List ℕ} {f : Failure} {ms : List Message} → Tells W f ms → length ms ≡ 1
tells-one (leading_member_accessor t) = refl
tells-one (empty_parameter_list t u) = refl
tells-one (math_at_end t) = refl
tells-one (math_without_parenthesis t) = refl
tells-one (leading_semicolon t) = refl
tells-one (empty_array_index t u) = refl
tells-one (binary_at_end t) = refl
tells-one (negate_without_operand t) = refl
tells-one (not_without_operand t) = refl
tells-one (unknown_operation t u) = refl
tells-one (unary_without_operand t) = refl
tells-one (ternary_without_operands t) = refl

pub says-one : {W : List ℕ} {source_length : ℕ} {f : Failure} {ms : List Message} → Says W source_length f ms → length ms ≡ 1
says-one (tells t) = tells-one t
says-one (not_ended t) = refl
says-one without_tokens = refl
