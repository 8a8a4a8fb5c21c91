-- The parse entry's table both ways: the list of a call that is not turned back is legal tokens, and a call with legal tokens and room for
-- them is not turned back. What a rule buffer changes of it: nothing where the call is read.
use Prim.Native.Nat.{◌+◌, ◌*◌, ◌/◌, ◌%◌, ◌^◌, ◌≤◌, ◌<◌}
use mathlib.Core.{Path.{◌≡◌, refl, ap, sym, ◌∙◌}, Bool.{true}, List.{List}, Option.{none}}
use native.Mathlib.Omega.{arith}
use lib.{Dec.{eqb, leb, ltb}, ListN.{length}}
use borrow.Author.Tests.{eqb-true, leb-true, ltb-true, eq-eqb, le-leb, lt-ltb}
use Rattle.molang.specs.{Forest.{Token}, Words.{row, operator_field, words_refusal, tokens_of, list_words}, Nesting.{too_deep}}
use Rattle.molang.specs.Parse.{Call, most_tokens, is_limit, length_rows, value_rows, refusal, answered, tree_after, messages_after}
use Rattle.molang.specs.Parse.{work_after}
use Rattle.molang.specs.Rules.{RuleCall, rule_refusal, rule_answered, ruled_tree_after, ruled_messages_after, ruled_work_after}
use Rattle.molang.proofs.FirstFailure.{first-none, then-none, passed, passes, all-passed, in_parts, with_number-none, without-number}
use Rattle.molang.proofs.{Words.{LegalTokens, words_back}, ListWords.{list-unrefused, list_words-length}}

-- WHAT AN ACCEPTED CALL'S LIST IS, at most 4,096 legal tokens, and what else it brings, row by row.
pub record Accepted (c : Call) : Type 0 where
  pub legal : LegalTokens (tokens_of c.list)
  pub few : length (tokens_of c.list) ≤ most_tokens
  pub whole : length c.list % 5 ≡ 0
  pub tokens : length c.list / 5 ≤ most_tokens
  pub tree : 21 * (length c.list / 5) ≤ length c.tree
  pub messages : 16 ≤ length c.messages
  pub work : 64 * (length c.list / 5) + 64 ≤ length c.work
  pub used : c.used_high * 2 ^ 64 + c.used_low < 2 ^ 111
  pub source_length : c.source_length ≤ 536870911
  pub limit : is_limit c.limit ≡ true
  pub words : words_refusal 0 operator_field 0 c.list ≡ none
  pub nesting : too_deep c.limit (tokens_of c.list) ≡ none

pub call-accepted : (c : Call) → refusal c ≡ none → Accepted c
unfolding refusal length_rows value_rows
call-accepted c h =
    let n = length c.list / 5 in
    let one = passed (eqb (length c.list % 5) 0) (row 1 0) _ h in
    let two = passed (leb n most_tokens) (row 2 0) _ one.1 in
    let three = passed (leb (21 * n) (length c.tree)) (row 3 0) _ two.1 in
    let four = passed (leb 16 (length c.messages)) (row 4 0) _ three.1 in
    let five = passed (leb (64 * n + 64) (length c.work)) (row 5 0) _ four.1 in
    let six = passed (ltb (c.used_high * 2 ^ 64 + c.used_low) (2 ^ 111)) (row 6 0) _ five.1 in
    let seven = passed (leb c.source_length 536870911) (row 7 0) _ six.1 in
    let limit = passed (is_limit c.limit) (row 17 0) _ seven.1 in
    let words = first-none _ _ limit.1 in
    let nesting = (first-none _ _ words.1).0 in
    let whole = eqb-true (length c.list % 5) 0 one.0 in
    let fits = leb-true n most_tokens two.0 in
    let back = words_back 0 0 c.list words.0 whole in
    let long = list_words-length (tokens_of c.list) in
    let same = ap length back.0 in
    record {
      legal = back.1;
      few = omega arith;
      whole = whole;
      tokens = fits;
      tree = leb-true _ _ three.0;
      messages = leb-true _ _ four.0;
      work = leb-true _ _ five.0;
      used = ltb-true _ _ six.0;
      source_length = leb-true _ _ seven.0;
      limit = limit.0;
      words = words.0;
      nesting = with_number-none 18 (too_deep c.limit (tokens_of c.list)) nesting;
    }

-- What a call needs not to be turned back, whatever its version: n legal tokens within its limit, and room for them by the table.
pub record Acceptable (d : Call) (ks : List Token) : Type 0 where
  pub list : d.list ≡ list_words ks
  pub legal : LegalTokens ks
  pub few : length ks ≤ most_tokens
  pub tree : 21 * length ks ≤ length d.tree
  pub messages : 16 ≤ length d.messages
  pub work : 64 * length ks + 64 ≤ length d.work
  pub used : d.used_high * 2 ^ 64 + d.used_low < 2 ^ 111
  pub source_length : d.source_length ≤ 536870911
  pub limit : is_limit d.limit ≡ true
  pub nesting : too_deep d.limit (tokens_of d.list) ≡ none

pub call-acceptable : (d : Call) (ks : List Token) → Acceptable d ks → refusal d ≡ none
unfolding refusal length_rows value_rows
call-acceptable d ks a =
    let long : length d.list ≡ 5 * length ks = ap length a.list ∙ list_words-length ks in
    let words : words_refusal 0 operator_field 0 d.list ≡ none = rw a.list (list-unrefused a.legal 0 0) in
    let whole : length d.list % 5 ≡ 0 = omega arith in
    let fits : length d.list / 5 ≤ most_tokens = omega arith in
    let tree_room : 21 * (length d.list / 5) ≤ length d.tree = omega arith in
    let work_room : 64 * (length d.list / 5) + 64 ≤ length d.work = omega arith in
    passes _ (row 1 0) _ (eq-eqb _ _ whole)
    (passes _ (row 2 0) _ (le-leb _ _ fits)
    (passes _ (row 3 0) _ (le-leb _ _ tree_room)
    (passes _ (row 4 0) _ (le-leb _ _ a.messages)
    (passes _ (row 5 0) _ (le-leb _ _ work_room)
    (passes _ (row 6 0) _ (lt-ltb _ _ a.used)
    (passes _ (row 7 0) _ (le-leb _ _ a.source_length)
    (passes _ (row 17 0) _ a.limit
    (then-none _ _ words
    (then-none _ _ (without-number 18 (too_deep d.limit (tokens_of d.list)) a.nesting) all-passed)))))))))

-- ---- With a rule buffer

-- A call that is not turned back is not turned back without the buffer.
pub rule-accepted : (c : RuleCall) → rule_refusal c ≡ none → refusal c.call ≡ none
unfolding rule_refusal refusal
rule-accepted c h =
    let x = first-none _ _ (sym (in_parts (length_rows c.call) _) ∙ h) in
    in_parts (length_rows c.call) (value_rows c.call) ∙ then-none _ _ x.0 (first-none _ _ x.1).1

-- THE TREE BESIDE THE RULES is the one that is given without the buffer; messages and work buffer are those given without it.
pub record AsWithout (c : RuleCall) : Type 0 where
  pub told : rule_answered c ≡ answered c.call
  pub tree : ruled_tree_after c ≡ tree_after c.call
  pub messages : ruled_messages_after c ≡ messages_after c.call
  pub work : ruled_work_after c ≡ work_after c.call

pub as-without : (c : RuleCall) → rule_refusal c ≡ none → AsWithout c
unfolding rule_answered ruled_tree_after ruled_messages_after ruled_work_after answered tree_after messages_after work_after
as-without c h =
    let e : rule_refusal c ≡ refusal c.call = h ∙ sym (rule-accepted c h) in
    record { told = rw e refl; tree = rw e refl; messages = rw e refl; work = rw e refl }
