-- What a limit changes of a call (specs/Limits), of both reading entries: their tables have the rows that ask for the limit at the end, and
-- reading asks for none.
use Prim.Native.Nat.{ℕ, ◌+◌, ◌*◌, ◌/◌, ◌%◌, ◌^◌, ◌≤◌}
use mathlib.Core.{Path.{◌≡◌, refl, sym, ap, ◌∙◌}, Bool.{Bool, true, false}, List.{List, [], ◌∷◌, ◌++◌}, Option.{Option, none, some}}
use native.Mathlib.Omega.{arith}
use lib.{Dec.{eqb, leb, ltb}, ListN.{length}}
use borrow.Author.Tests.{eqb-true, leb-true}
use Rattle.molang.specs.{Read.{Answer, tree, messages}, FirstFailure.{must, first_of}, Nesting.{too_deep}}
use Rattle.molang.specs.Words.{Refusal, row, with_number, operator_field, words_refusal, tokens_of}
use Rattle.molang.specs.Parse.{Call, most_tokens, is_limit, length_rows, value_rows, refusal, reading, refused, told}
use Rattle.molang.specs.{Rules.{rule_refusal}, Left.{Left, left}, Limits.{with_limit, LimitOnly}}
use Rattle.molang.proofs.{Trees.{some-none}, Nesting.{never-18, first-deep}, Left.{comes_to, rules_left, left-comes}}
use Rattle.molang.proofs.FirstFailure.{first-none, then-none, passed, passes, all-passed, in_parts, without-number, All, all_first}
use Rattle.molang.proofs.{FirstFailure.{all-last, all-must}, ListWords.{tokens-count}, Refusals.{Within, words-within}}

-- ---- The tables

-- The rows before the limit's.
front_rows : Option (List ℕ) → Call → List (Option Refusal)
front_rows none c =
    length_rows c
    ++ (must (ltb (c.used_high * 2 ^ 64 + c.used_low) (2 ^ 111)) (row 6 0) ∷ must (leb c.source_length 536870911) (row 7 0) ∷ [])
front_rows (some rules) c =
    length_rows c
    ++ (must (leb (3 * (length c.list / 5)) (length rules)) (row 16 0)
    ∷ must (ltb (c.used_high * 2 ^ 64 + c.used_low) (2 ^ 111)) (row 6 0) ∷ must (leb c.source_length 536870911) (row 7 0) ∷ [])

-- The limit's, and the words' between them.
limit_rows : Bool → Option Refusal → Option ℕ → List (Option Refusal)
limit_rows legal words deep = must legal (row 17 0) ∷ words ∷ with_number 18 deep ∷ []

words_of : Call → Option Refusal
words_of c = words_refusal 0 operator_field 0 c.list

table : (rules : Option (List ℕ)) (c : Call) (limit : ℕ) → (left rules (with_limit c limit)).turned
    ≡ first_of (first_of (front_rows rules c) ∷ limit_rows (is_limit limit) (words_of c) (too_deep limit (tokens_of c.list)))
unfolding left refusal rule_refusal length_rows value_rows front_rows limit_rows words_of
table none c limit = in_parts (front_rows none c) _
table (some rules) c limit = in_parts (front_rows (some rules) c) _

abbrev Low : Refusal → Type 0
Low r = r.number ≤ 16

one-low : (b : Bool) (n : ℕ) → n ≤ 16 → All Low (must b (row n 0))
one-low b n h = all-must Low b (row n 0) h

lengths-low : (c : Call) → All Low (first_of (length_rows c))
unfolding length_rows
lengths-low c =
    all_first Low _ _ (one-low _ 1 (omega arith)) (all_first Low _ _ (one-low _ 2 (omega arith))
    (all_first Low _ _ (one-low _ 3 (omega arith)) (all_first Low _ _ (one-low _ 4 (omega arith))
    (all-last Low _ (one-low _ 5 (omega arith))))))

front_low : (rules : Option (List ℕ)) (c : Call) → All Low (first_of (front_rows rules c))
unfolding front_rows
front_low none c =
    rw (in_parts (length_rows c)) (all_first Low _ _ (lengths-low c)
    (all_first Low _ _ (one-low _ 6 (omega arith)) (all-last Low _ (one-low _ 7 (omega arith)))))
front_low (some rules) c =
    rw (in_parts (length_rows c)) (all_first Low _ _ (lengths-low c)
    (all_first Low _ _ (one-low _ 16 (omega arith))
    (all_first Low _ _ (one-low _ 6 (omega arith)) (all-last Low _ (one-low _ 7 (omega arith))))))

-- Where they do not answer, the tokens are few.
lengths_none : (rules : Option (List ℕ)) (c : Call) → first_of (front_rows rules c) ≡ none → first_of (length_rows c) ≡ none
unfolding front_rows
lengths_none none c e = (first-none _ _ (sym (in_parts (length_rows c) _) ∙ e)).0
lengths_none (some rules) c e = (first-none _ _ (sym (in_parts (length_rows c) _) ∙ e)).0

front-few : (rules : Option (List ℕ)) (c : Call) → first_of (front_rows rules c) ≡ none → length (tokens_of c.list) ≤ most_tokens
unfolding length_rows
front-few rules c e =
    let one = passed (eqb (length c.list % 5) 0) (row 1 0) _ (lengths_none rules c e) in
    let two = passed (leb (length c.list / 5) most_tokens) (row 2 0) _ one.1 in
    let whole : length c.list % 5 ≡ 0 = eqb-true (length c.list % 5) 0 one.0 in
    let few : length c.list / 5 ≤ most_tokens = leb-true (length c.list / 5) most_tokens two.0 in
    omega (arith, tokens-count c.list)

words-low : (c : Call) → All Low (words_of c)
unfolding words_of
words-low c = so (words_refusal 0 operator_field 0 c.list) (words-within 0 operator_field 0 c.list (length c.list) (omega arith))
  where
    so : (o : Option Refusal) → All (Within 11 (length c.list)) o → All Low o
    so none x = tt
    so (some r) x = omega arith

-- ---- What they say

-- Another reason than the limit is one at every legal limit.
other_row : (front words : Option Refusal) (legal : Bool) (deep other : Option ℕ) (r : Refusal)
    → first_of (front ∷ limit_rows legal words deep) ≡ some r → (r.number ≡ 17 → ⊥) → (r.number ≡ 18 → ⊥)
    → first_of (front ∷ limit_rows true words other) ≡ some r
unfolding limit_rows first_of must
other_row (some a) words legal deep other r e n m = e
other_row none words false deep other r e n m = absurd (n (cc))
other_row none (some a) true deep other r e n m = e
other_row none none true (some p) other r e n m = absurd (m (cc))
other_row none none true none other r e n m = some-none (sym e)

-- Number 18 is that of the last row.
deep-row : (front words : Option Refusal) (legal : Bool) (deep : Option ℕ) (r : Refusal) → All Low front → All Low words
    → first_of (front ∷ limit_rows legal words deep) ≡ some r → r.number ≡ 18
    → (deep ≡ some r.place) × (front ≡ none)
unfolding limit_rows first_of must
deep-row (some a) words legal deep r x y e h = let n : a.number ≡ r.number = cc in absurd (omega arith)
deep-row none words false deep r x y e h = let n : 17 ≡ r.number = cc in absurd (omega arith)
deep-row none (some a) true deep r x y e h = let n : a.number ≡ r.number = cc in absurd (omega arith)
deep-row none none true (some p) r x y e h = let n : p ≡ r.place = cc in (ap some n, refl)
deep-row none none true none r x y e h = some-none (sym e)

-- A refusal that is told is the one with which the call is turned back.
pub told-turned : (o : Option Refusal) (a : Answer) (number place : ℕ) → told o a ≡ refused number place
    → (r : Refusal) × (o ≡ some r) × (r.number ≡ number) × (r.place ≡ place)
unfolding told
told-turned (some r) a number place e = (r, refl, cc, cc)
told-turned none (tree k cs) number place e = let z : ◌≡◌ {A = ℕ} 0 1 = cc in absurd (omega arith)
told-turned none (messages ms) number place e = let z : ◌≡◌ {A = ℕ} 0 1 = cc in absurd (omega arith)

-- ---- Both entries

limit-rules : (rules : Option (List ℕ)) (o : Option Refusal) (c : Call) (limit : ℕ)
    → rules_left rules o (with_limit c limit) ≡ rules_left rules o c
unfolding rules_left reading
limit-rules none o c limit = refl
limit-rules (some buffer) o c limit = refl

module _ (rules : Option (List ℕ)) (c : Call) where
  -- Reading asks for no limit.
  left-same : (limit : ℕ) → (left rules (with_limit c limit)).turned ≡ (left rules c).turned → left rules (with_limit c limit) ≡ left rules c
  unfolding comes_to reading
  left-same limit h =
      left-comes rules (with_limit c limit)
      ∙ ap (λ (ns : List ℕ). comes_to (left rules (with_limit c limit)).turned c ns) (limit-rules rules _ c limit)
      ∙ ap (λ (o : Option Refusal). comes_to o c (rules_left rules o c)) h ∙ sym (left-comes rules c)

  turned-18 : (place : ℕ) → (left rules c).told ≡ refused 18 place
      → (too_deep c.limit (tokens_of c.list) ≡ some place) × (first_of (front_rows rules c) ≡ none)
  unfolding comes_to
  turned-18 place e =
      let t = told-turned (left rules c).turned (reading c) 18 place (sym (ap (λ (l : Left). l.told) (left-comes rules c)) ∙ e) in
      let d = deep-row (first_of (front_rows rules c)) (words_of c) (is_limit c.limit) (too_deep c.limit (tokens_of c.list)) t.0
      (front_low rules c) (words-low c) (sym (table rules c c.limit) ∙ t.1) t.2 in
      (d.0 ∙ ap some t.3, d.1)

  -- A call that is read passes every row.
  at-most : (left rules c).turned ≡ none → (left rules (with_limit c most_tokens)).turned ≡ none
  unfolding limit_rows is_limit
  at-most e =
      let front = first-none _ _ (sym (table rules c c.limit) ∙ e) in
      let legal = passed (is_limit c.limit) (row 17 0) _ front.1 in
      let words = first-none _ _ legal.1 in
      table rules c most_tokens
      ∙ then-none _ _ front.0 (passes (is_limit most_tokens) (row 17 0) _ refl (then-none _ _ words.0
      (then-none _ _ (without-number 18 _ (never-18 (tokens_of c.list) (front-few rules c front.0))) all-passed)))

  -- EVERY CALL OF EITHER ENTRY: the limit turns back with 17 or 18, and changes nothing else.
  pub limit-only : LimitOnly rules c
  unfolding too_deep
  limit-only =
      record {
        at_most = λ e. left-same most_tokens (at-most e ∙ sym e);
        at_other = λ limit e f. left-same limit (f ∙ sym e);
        other_reason = λ r limit e n m legal. left-same limit
            (table rules c limit
            ∙ rw legal (other_row _ (words_of c) (is_limit c.limit) (too_deep c.limit (tokens_of c.list)) _ r
            (sym (table rules c c.limit) ∙ e) n m)
            ∙ sym e);
        deep = λ place e.
            let d = (turned-18 place e).0 in (d, first-deep c.limit 0 0 (tokens_of c.list) place (omega arith) d);
        never18 = λ most place e.
            let t = turned-18 place e in
            some-none (sym t.0 ∙ rw most (never-18 (tokens_of c.list) (front-few rules c t.1)));
      }
