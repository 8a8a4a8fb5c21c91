-- Which refusals a call can get: what holds of every row's refusal holds of the table's, a word's answer is 8 to 11 at a word of the list,
-- and an answer 18 is at a token of it. With a rule buffer, and the turn of answer 16.
use Prim.Native.Nat.{ℕ, suc, ◌+◌, ◌*◌, ◌/◌, ◌%◌, ◌≤◌, ◌<◌}
use mathlib.Core.{Path.{◌≡◌, ◌∙◌}, List.{List, [], ◌∷◌}, Option.{Option, none, some}}
use native.Mathlib.Omega.{arith}
use lib.{Dec.{leb}, ListN.{length}}
use borrow.Author.Tests.{leb-true, lt-leb, eqb-true}
use Rattle.molang.specs.Forest.{Token}
use Rattle.molang.specs.Words.{Field, operator_field, start_field, end_field, upper_field, lower_field, count_field, close_field, low_of}
use Rattle.molang.specs.Words.{low_fault, word_fault, variant_after, next_in_token, Refusal, row, with_place, with_number, words_refusal}
use Rattle.molang.specs.{Words.{tokens_of}, Nesting.{open_after, first_above, too_deep}, FirstFailure.{first_of}}
use Rattle.molang.specs.{Parse.{Call, most_tokens, length_rows, value_rows, refusal}, Rules.{RuleCall, rule_refusal}}
use Rattle.molang.proofs.FirstFailure.{must-false, found, in_parts, All, all_first, all-last, all-must, all-between, all-must-then}
use Rattle.molang.proofs.ListWords.{tokens-count}

-- ---- The rows

-- A refusal of the first eight rows has place 0; the list is short enough where the words are looked at.
pub all-rows : (P : Refusal → Type 0) (c : Call) → ((n : ℕ) → n ≤ 7 → P (row n 0)) → P (row 17 0)
    → (length c.list ≤ 20480 → All P (words_refusal 0 operator_field 0 c.list))
    → (length c.list ≤ 20480 → All P (with_number 18 (too_deep c.limit (tokens_of c.list))))
    → All P (refusal c)
unfolding refusal length_rows value_rows
all-rows P c first limit words nesting =
    all-must-then P _ _ _ (first 1 (omega arith))
    (λ whole. all-must-then P _ _ _ (first 2 (omega arith))
    (λ few.
    let short : length c.list ≤ 20480 =
    omega (arith, eqb-true (length c.list % 5) 0 whole, leb-true (length c.list / 5) most_tokens few)
    in
    all-must-then P _ _ _ (first 3 (omega arith))
    (λ t. all-must-then P _ _ _ (first 4 (omega arith))
    (λ m. all-must-then P _ _ _ (first 5 (omega arith))
    (λ w. all-must-then P _ _ _ (first 6 (omega arith))
    (λ u. all-must-then P _ _ _ (first 7 (omega arith))
    (λ s. all-must-then P _ _ _ limit (λ l. all_first P _ _ (words short) (all-last P _ (nesting short))))))))))

-- ---- The words

-- A refusal's number and place are at most these.
abbrev pub Within : ℕ → ℕ → Refusal → Type 0
Within number place r = (r.number ≤ number) × (r.place ≤ place)

abbrev Most : ℕ → Type 0
Most n = n ≤ 11

low-most : (field : Field) (v low : ℕ) → All Most (low_fault field v low)
unfolding low_fault
low-most operator_field v low =
    all_first Most _ _ (all-must Most _ 9 (omega arith))
    (all_first Most _ _ (all-must Most _ 10 (omega arith)) (all-last Most _ (all-must Most _ 11 (omega arith))))
low-most start_field v low = tt
low-most end_field v low = tt
low-most upper_field v low = all-must Most _ 11 (omega arith)
low-most lower_field v low = all-must Most _ 11 (omega arith)
low-most count_field v low = all-must Most _ 11 (omega arith)
low-most close_field v low = tt

word-most : (field : Field) (v w : ℕ) → All Most (word_fault field v w)
unfolding word_fault
word-most field v w = all_first Most _ _ (all-must Most _ 8 (omega arith)) (all-last Most _ (low-most field v (low_of w)))

at_place : (o : Option ℕ) (place most : ℕ) → place ≤ most → All Most o → All (Within 11 most) (with_place place o)
at_place none place most h x = tt
at_place (some n) place most h x = (x, h)

pub words-within : (i : ℕ) (field : Field) (v : ℕ) (ws : List ℕ) (most : ℕ) → i + length ws ≤ most
    → All (Within 11 most) (words_refusal i field v ws)
unfolding words_refusal
words-within i field v [] most h = tt
words-within i field v (w ∷ ws) most h =
    all_first (Within 11 most) _ _ (at_place (word_fault field v w) i most (omega arith) (word-most field v w))
    (all-last (Within 11 most) _ (words-within (suc i) (next_in_token field) (variant_after field v w) ws most (omega arith)))

-- ---- The nesting

pub above_within : (limit i depth most : ℕ) (ks : List Token) → i + length ks ≤ most → All (λ p. p < most) (first_above limit i depth ks)
unfolding first_above
above_within limit i depth most [] h = tt
above_within limit i depth most (k ∷ ks) h =
    all_first (λ p. p < most) _ _ (all-must (λ p. p < most) _ i (omega arith))
    (all-last (λ p. p < most) _ (above_within limit (suc i) (open_after depth k.op) most ks (omega arith)))

-- ---- ALL

-- NO REFUSAL HAS A NUMBER ABOVE 18, or a place past the last word.
pub refusal-within : (c : Call) → All (Within 18 20480) (refusal c)
unfolding too_deep
refusal-within c =
    all-rows (Within 18 20480) c (λ n h. (omega arith, omega arith)) (omega arith, omega arith)
    (λ h. words (words_refusal 0 operator_field 0 c.list) (words-within 0 operator_field 0 c.list 20480 (omega arith)))
    (λ h. place (too_deep c.limit (tokens_of c.list))
    (above_within c.limit 0 0 20480 (tokens_of c.list) (omega (arith, tokens-count c.list))))
  where
    words : (o : Option Refusal) → All (Within 11 20480) o → All (Within 18 20480) o
    words none x = tt
    words (some r) x = (omega arith, omega arith)

    place : (o : Option ℕ) → All (λ p. p < 20480) o → All (Within 18 20480) (with_number 18 o)
    place none x = tt
    place (some p) x = (omega arith, omega arith)

-- The same with a rule buffer, whose row has place 0.
pub rule-refusal-within : (c : RuleCall) → All (Within 18 20480) (rule_refusal c)
unfolding rule_refusal refusal
rule-refusal-within c =
    let P = Within 18 20480 in
    rw (in_parts (length_rows c.call))
    (all-between P _ _ (value_rows c.call) (all-must P _ (row 16 0) (omega arith, omega arith))
    (rw (in_parts (length_rows c.call) (value_rows c.call)) at (refusal-within c.call)))

-- ANSWER 16'S TURN is after 5 and before all others: the first five rows answer before it, and where they do not a short buffer does.
pub before-sixteen : (c : RuleCall) (r : Refusal) → first_of (length_rows c.call) ≡ some r → rule_refusal c ≡ some r
before-sixteen c r e = unfold rule_refusal in in_parts (length_rows c.call) _ ∙ found (first_of (length_rows c.call)) r _ e

pub sixteen : (c : RuleCall) → first_of (length_rows c.call) ≡ none → length c.rules < 3 * (length c.call.list / 5)
    → rule_refusal c ≡ some (row 16 0)
unfolding rule_refusal first_of
sixteen c e h =
    let short = must-false (leb (3 * (length c.call.list / 5)) (length c.rules)) (row 16 0) (lt-leb _ _ h) in
    in_parts (length_rows c.call) _ ∙ (rw e (found _ (row 16 0) (value_rows c.call) short))
