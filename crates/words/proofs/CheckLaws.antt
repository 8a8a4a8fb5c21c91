-- The check of words in list order, one word at a time: the first bad word ends it, a good one hands it on; and the check of a list
-- that opens with a token. Assumes nothing.
use mathlib.Core.{Path.{◌≡◌, refl, sym, ap, ◌∙◌}, Bool.{Bool, true, false}, List.{List, [], ◌∷◌, ◌++◌}, Option.{none, some}}
use Prim.Native.Nat.{ℕ, suc, ◌+◌, ◌-◌, ◌*◌, ◌/◌, ◌%◌, ◌^◌, ◌≤◌, ◌<◌}
use native.Mathlib.{Numerals.{add-one, add-two, add-three, add-four, add_five}, Omega.{arith}}
use lib.{Dec.{eqb, leb, ltb}, Pow.{field, mod-mod-pow}}
use borrow.Author.Tests.{eq-eqb, eqb-true, le-leb, lt-ltb}
use Rattle.molang.specs.Operator.{is_operator}
use Rattle.molang.specs.Words.{kind_of, low_of, Field, operator_field, start_field, end_field, upper_field, lower_field, field_kind, low_fault}
use Rattle.molang.specs.{Words.{word_fault, variant_after, next_in_token, Refusal, row, with_place, words_refusal}, FirstFailure.{must, first_of}}
use Rattle.molang.proofs.{FirstFailure.{found, later-found, behind, before-none, last_one}, OldWords.{old-number, old-answer}, Trees.{some-none}, Words.{next_word}}
use Rattle.molang.proofs.ListWords.{list-word}
use Rattle.std.specs.Prelude.{⊤, Result, Ok, Err}
use Rattle.words.specs.{Fields.{operator_of, variant_of}, Checks.{number_of, LowOperator, HalfWords}, Refusals.{reason_number, refusal_row}}
use Rattle.words.specs.declared.refusals.Reason.{Reason}

-- The three tests of the low bits of a word of kind 1, by its fields.
pub operator-tests : (w : ℕ)
    → low_fault operator_field 0 (low_of w)
    ≡ first_of (must (is_operator (operator_of w)) 9 ∷ must (leb (variant_of w) 12) 10 ∷ must (ltb (low_of w) 65536) 11 ∷ [])
operator-tests w = unfold low_fault operator_of variant_of in refl

module _ (i : ℕ) (field : Field) (v w : ℕ) (ws : List ℕ) where
  bad-word : (n : ℕ) → some n ≡ word_fault field v w → some (row n i) ≡ words_refusal i field v (w ∷ ws)
  bad-word n e = unfold words_refusal in sym (found (with_place i (word_fault field v w)) (row n i) _ (ap (with_place i) (sym e)))

  pub first-bad : (r : Reason) → some (reason_number r) ≡ word_fault field v w
      → some (refusal_row (record { reason = r; place = i })) ≡ words_refusal i field v (w ∷ ws)
  first-bad r e = bad-word (reason_number r) e

  pub good-word : none ≡ word_fault field v w
      → words_refusal (suc i) (next_in_token field) (variant_after field v w) ws ≡ words_refusal i field v (w ∷ ws)
  good-word e = sym (list-word i field v w ws (sym e))

pub last_word : (i : ℕ) (field : Field) (v w : ℕ) (x : Result ⊤ Reason) → number_of x ≡ word_fault field v w
    → with_place i (number_of x) ≡ words_refusal i field v (w ∷ [])
unfolding words_refusal
last_word i field v w (Ok _) e = good-word i field v w [] e
last_word i field v w (Err r) e = bad-word i field v w [] (reason_number r) e

-- The tests of the four other words, by kind.
pub start-tests : (v w : ℕ) → first_of {A = ℕ} (must (eqb (kind_of w) 2) 8 ∷ low_fault start_field 0 (low_of w) ∷ []) ≡ word_fault start_field v w
start-tests v w = unfold word_fault field_kind low_fault in refl

pub end-tests : (v w : ℕ) → first_of {A = ℕ} (must (eqb (kind_of w) 3) 8 ∷ low_fault start_field 0 (low_of w) ∷ []) ≡ word_fault end_field v w
end-tests v w = unfold word_fault field_kind low_fault in refl

pub upper-tests : (v w : ℕ) → first_of {A = ℕ} (must (eqb (kind_of w) 4) 8 ∷ low_fault upper_field v (low_of w) ∷ []) ≡ word_fault upper_field v w
upper-tests v w = unfold word_fault field_kind in refl

pub lower-tests : (v w : ℕ) → first_of {A = ℕ} (must (eqb (kind_of w) 5) 8 ∷ low_fault upper_field v (low_of w) ∷ []) ≡ word_fault lower_field v w
lower-tests v w = unfold word_fault field_kind low_fault in refl

-- The five words of a token, in the tests that the code makes of them.
pub token-tests : (at a b c d e : ℕ)
    → words_refusal at operator_field 0 (a ∷ b ∷ c ∷ d ∷ e ∷ [])
    ≡ first_of
    (with_place at (word_fault operator_field 0 a)
    ∷ with_place (at + 1) (first_of (must (eqb (kind_of b) 2) 8 ∷ low_fault start_field 0 (low_of b) ∷ []))
    ∷ with_place (at + 2) (first_of (must (eqb (kind_of c) 3) 8 ∷ low_fault start_field 0 (low_of c) ∷ []))
    ∷ with_place (at + 3) (first_of (must (eqb (kind_of d) 4) 8 ∷ low_fault upper_field (variant_of a) (low_of d) ∷ []))
    ∷ with_place (at + 4) (first_of (must (eqb (kind_of e) 5) 8 ∷ low_fault upper_field (variant_of a) (low_of e) ∷ []))
    ∷ [])
unfolding words_refusal next_in_token variant_after variant_of
token-tests at a b c d e =
    rw (add-one at, add-two at, add-three at, add-four at)
    (behind _ _ _
    (last_one _
    ∙ rw (start-tests (variant_of a) b, end-tests (variant_of a) c, upper-tests (variant_of a) d, lower-tests (variant_of a) e)
    (behind _ _ _ (last_one _ ∙ behind _ _ _ (last_one _ ∙ behind _ _ _ (last_one _ ∙ (before-none _ none refl ∙ sym (last_one _))))))))

-- ---- A list that opens with a token

-- Words that are refused, before any others.
refused-then : (us ws : List ℕ) (i : ℕ) (field : Field) (v : ℕ) (r : Refusal)
    → words_refusal i field v us ≡ some r → words_refusal i field v (us ++ ws) ≡ some r
unfolding words_refusal
refused-then [] ws i field v r e = some-none (sym e)
refused-then (u ∷ us) ws i field v r e =
    later-found (with_place i (word_fault field v u)) _ _ r (refused-then us ws (suc i) (next_in_token field) (variant_after field v u) r) e

-- A token that is refused ends the check of the list. (The payload variant of the token before it does not matter.)
pub token-refused : (i v a b c d e : ℕ) (ws : List ℕ) (r : Refusal)
    → words_refusal i operator_field 0 (a ∷ b ∷ c ∷ d ∷ e ∷ []) ≡ some r → words_refusal i operator_field v (a ∷ b ∷ c ∷ d ∷ e ∷ ws) ≡ some r
unfolding words_refusal word_fault low_fault variant_after
token-refused i v a b c d e ws r refused = refused-then (a ∷ b ∷ c ∷ d ∷ e ∷ []) ws i operator_field 0 r refused

-- The five words of a token are good.
pub record GoodToken (a b c d e : ℕ) : Type 0 where
  pub operator : none ≡ word_fault operator_field 0 a
  pub start : none ≡ word_fault start_field (variant_of a) b
  pub end : none ≡ word_fault end_field (variant_of a) c
  pub upper : none ≡ word_fault upper_field (variant_of a) d
  pub lower : none ≡ word_fault lower_field (variant_of a) e

pub good-token : (i a b c d e : ℕ) → words_refusal i operator_field 0 (a ∷ b ∷ c ∷ d ∷ e ∷ []) ≡ none → GoodToken a b c d e
unfolding next_in_token variant_after variant_of
good-token i a b c d e p =
    let one = next_word i operator_field 0 a (b ∷ c ∷ d ∷ e ∷ []) p in
    let two = next_word (suc i) start_field (variant_of a) b (c ∷ d ∷ e ∷ []) one.1 in
    let three = next_word (suc (suc i)) end_field (variant_of a) c (d ∷ e ∷ []) two.1 in
    let four = next_word (suc (suc (suc i))) upper_field (variant_of a) d (e ∷ []) three.1 in
    let five = next_word (suc (suc (suc (suc i)))) lower_field (variant_of a) e [] four.1 in
    record { operator = sym one.0; start = sym two.0; end = sym three.0; upper = sym four.0; lower = sym five.0 }

-- A token that passes hands the check on.
pub token-passed : (i v a b c d e : ℕ) (ws : List ℕ) → GoodToken a b c d e
    → words_refusal i operator_field v (a ∷ b ∷ c ∷ d ∷ e ∷ ws) ≡ words_refusal (i + 5) operator_field (variant_of a) ws
unfolding word_fault low_fault next_in_token variant_after variant_of
token-passed i v a b c d e ws good =
    rw (add_five i)
    (sym
    (good-word (suc (suc (suc (suc i)))) lower_field (variant_of a) e ws good.lower
    ∙ (good-word (suc (suc (suc i))) upper_field (variant_of a) d (e ∷ ws) good.upper
    ∙ (good-word (suc (suc i)) end_field (variant_of a) c (d ∷ e ∷ ws) good.end
    ∙ (good-word (suc i) start_field (variant_of a) b (c ∷ d ∷ e ∷ ws) good.start
    ∙ good-word i operator_field v a (b ∷ c ∷ d ∷ e ∷ ws) good.operator)))))

-- ---- The tests of several words at once

module _ (w : ℕ) (least : 2097152 ≤ w / 256) (most : w / 256 ≤ 2097164) where
  low-kind : kind_of w ≡ 1
  low-kind = unfold kind_of in omega arith

  low-few : low_of w < 3328
  low-few = unfold low_of in omega arith

  low_byte : low_of w % 2 ^ 8 ≡ w % 2 ^ 8
  low_byte = unfold low_of in mod-mod-pow w 21 8

  -- A word of kind 1 with nothing above its variant, which is not above 12.
  pub low-operator : w % 256 ≤ 110 → LowOperator w
  unfolding word_fault field_kind first_of must operator_of
  low-operator last =
      let no-host : low_of w / 2 ^ 12 % 2 ^ 4 ≡ 0 = omega (arith, low-few) in
      record {
        legal =
            rw (
              eq-eqb (kind_of w) 1 low-kind,
              old-answer 0 (low_of w) no-host,
              le-leb (low_of w % 256) 110 (omega (arith, low_byte)),
              le-leb (low_of w / 256 % 16) 12 (omega (arith, low-few)),
              lt-ltb (low_of w) (2 ^ 12) (omega (arith, low-few)),
            );
        number = old-number (low_of w) no-host ∙ low_byte;
        last = last;
      }

start-good : (v w : ℕ) → kind_of w ≡ 2 → none ≡ word_fault start_field v w
start-good v w e = unfold word_fault field_kind low_fault first_of must in rw (eq-eqb (kind_of w) 2 e)

end-good : (v w : ℕ) → kind_of w ≡ 3 → none ≡ word_fault end_field v w
end-good v w e = unfold word_fault field_kind low_fault first_of must in rw (eq-eqb (kind_of w) 3 e)

-- The low bits of a half's word: 16 of them, and none under variant 0.
half-good : (v low : ℕ) → low < 2 ^ 16 → (v ≡ 0 → low ≡ 0) → ltb low (elim (eqb v 0) [ true ↦ 1 | false ↦ 2 ^ 16 ]) ≡ true
half-good v low few zero = go (eqb v 0) refl
  where
    go : (b : Bool) → eqb v 0 ≡ b → ltb low (elim b [ true ↦ 1 | false ↦ 2 ^ 16 ]) ≡ true
    go true e = lt-ltb low 1 (omega (arith, zero (eqb-true v 0 e)))
    go false e = lt-ltb low (2 ^ 16) few

upper-good : (v w : ℕ) → kind_of w ≡ 4 → low_of w < 2 ^ 16 → (v ≡ 0 → low_of w ≡ 0) → none ≡ word_fault upper_field v w
upper-good v w e few zero = unfold word_fault field_kind low_fault first_of must in rw (eq-eqb (kind_of w) 4 e, half-good v (low_of w) few zero)

lower-good : (v w : ℕ) → kind_of w ≡ 5 → low_of w < 2 ^ 16 → (v ≡ 0 → low_of w ≡ 0) → none ≡ word_fault lower_field v w
lower-good v w e few zero = unfold word_fault field_kind low_fault first_of must in rw (eq-eqb (kind_of w) 5 e, half-good v (low_of w) few zero)

module _ (a d e : ℕ) (fits : d < 2 ^ 32) (above : e - e % 65536 + d / 65536 ≡ 2684387328) where
  upper-top : d / 65536 ≡ 32768
  upper-top = omega arith

  lower-top : e / 65536 ≡ 40960
  lower-top = omega arith

  upper-kind : kind_of d ≡ 4
  upper-kind = unfold kind_of in omega (arith, upper-top)

  lower-kind : kind_of e ≡ 5
  lower-kind = unfold kind_of in omega (arith, lower-top)

  upper-low : low_of d ≡ d % 65536
  upper-low = unfold low_of in omega (arith, upper-top)

  lower-low : low_of e ≡ e % 65536
  lower-low = unfold low_of in omega (arith, lower-top)

  variant-bits : variant_of a ≡ a / 256 % 16
  variant-bits = unfold variant_of low_of in ap (λ (m : ℕ). m % 2 ^ 4) (field a 21 8) ∙ mod-mod-pow (a / 2 ^ 8) 17 4

  -- Both words of a payload value, by what stands above their halves and by the sum of the halves.
  pub halves-good : d % 65536 + e % 65536 ≤ a / 256 % 16 * 131072 → HalfWords a d e
  halves-good sum =
      record {
        upper = upper-good (variant_of a) d upper-kind (omega (arith, upper-low)) (λ z. omega (arith, upper-low, variant-bits, z));
        lower = lower-good (variant_of a) e lower-kind (omega (arith, lower-low)) (λ z. omega (arith, lower-low, variant-bits, z));
      }

-- The words of a token of the operator n, with the payload variant 0 and no payload.
pub bare-operator : (w : ℕ) → 536870912 ≤ w → w ≤ 536871022 → LowOperator w
bare-operator w least most = low-operator w (omega arith) (omega arith) (omega arith)

pub bare-halves : (a d e : ℕ) → d ≡ 2147483648 → e ≡ 2684354560 → HalfWords a d e
bare-halves a d e upper lower = halves-good a d e (omega arith) (omega arith) (omega arith)

-- Where these tests hold the words of a token are legal.
pub tests-passed : (i a b c d e : ℕ) → LowOperator a → (kind_of b ≡ 2) × (kind_of c ≡ 3) → HalfWords a d e
    → words_refusal i operator_field 0 (a ∷ b ∷ c ∷ d ∷ e ∷ []) ≡ none
unfolding words_refusal
tests-passed i a b c d e first spans halves =
    token-passed i 0 a b c d e []
    (record {
      operator = first.legal;
      start = start-good (variant_of a) b spans.0;
      end = end-good (variant_of a) c spans.1;
      upper = halves.upper;
      lower = halves.lower;
    })
