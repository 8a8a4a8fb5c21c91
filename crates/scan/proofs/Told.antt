-- WHAT THE TABLE TELLS of an operator, in the grammar's words: one record of facts, computed over the three tables. A grade is a rank's number in
-- the stack's words; grades are in the order of the ranks.
use Prim.Native.Nat.{ℕ, zero, suc, ◌+◌, ◌/◌, ◌%◌, ◌≤◌, ◌<◌}
use mathlib.Core.{Path.{◌≡◌, refl, ap, ◌∙◌}, Bool.{Bool, true, false, ◌&&◌, ◌||◌, not, false≢true, and-eq-true_iff}}
use mathlib.Core.List.{List, [], ◌∷◌}
use native.Mathlib.Omega.{arith}
use lib.{Dec.{eqb, leb}, ListN.{length, get_or}}
use borrow.Author.Tests.{leb-true, le-leb, eqb-true, eqb-false, not-true, le-ltb}
use Rattle.molang.specs.Operator
use Rattle.molang.specs.{Operator.{is_math_call, is_host, is_operator, is_one_of, any, before_minus, operators_before}, Order.{Rules, order}}
use Rattle.molang.specs.Grammar.{rank, is_infix, is_operand}
use Rattle.molang.proofs.{Computed.{computed}, Booleans.{either, or-second}, OperatorNumbers.{none_of}, Grammar.Numbers.{apart}}
use Rattle.scan.specs.{Turns.{want_class, have_class, minus_class, call_class}, Tables.{below_five, at_five, from_six, entry_in}}

-- A minus after the operator is binary.
unfoldable pub ends_before : ℕ → Bool
ends_before n = elim (before_minus n) [ Operator.operand ↦ true | Operator.operator ↦ false | Operator.minus ↦ false | Operator.unknown ↦ false ]

unfoldable pub implies : Bool → Bool → Bool
implies a b = elim a [ true ↦ b | false ↦ true ]

-- ---- the tests of an operator's number and its entry

unfoldable pub leaf_test : ℕ → Bool
leaf_test n = is_operand n && not (eqb n Operator.negate)

unfoldable pub infix_test : Rules → (ℕ → ℕ) → ℕ → ℕ → Bool
infix_test r grade n e =
    is_infix r n
    && (eqb (e / 134217728) (grade (rank r n))
    && (leb (suc (rank r n)) (rank r Operator.negate)
    && implies r.pairs_right
    ((leb (suc (rank r n)) (rank r Operator.conditional) && leb (grade (rank r n)) 4) || leb (suc (rank r Operator.conditional)) (rank r n))))

unfoldable pub binary_test : ℕ → Bool
binary_test n = not (eqb n Operator.right_brace) && implies (is_operand n) (ends_before n)

unfoldable pub math_test : Rules → ℕ → Bool
math_test r n = is_math_call n && (leb (rank r Operator.negate) (rank r n) && (ends_before n && not (eqb n Operator.negate)))

-- What the rules and the table tell.
pub record Told (r : Rules) (entry : ℕ → ℕ) : Type 0 where
  pub grade : ℕ → ℕ
  pub ordered : (i j : ℕ) → i < j → grade i < grade j
  pub ground : (j : ℕ) → 1 ≤ grade j
  pub one : grade 1 ≡ 2
  pub plus : grade (rank r Operator.add) ≡ 15
  pub question : r.pairs_right ≡ true → grade (rank r Operator.conditional) ≡ 6
  pub height : rank r Operator.negate ≤ length (order r)
  pub signs : rank r Operator.logical_not ≡ rank r Operator.negate
  pub sum : rank r Operator.add < rank r Operator.negate
  pub conditional : rank r Operator.conditional < rank r Operator.add
  pub leaf : (n : ℕ) → is_operator n ≡ true → eqb (want_class (entry n)) 1 ≡ true → leaf_test n ≡ true
  pub closer : (n : ℕ) → is_operator n ≡ true → eqb (want_class (entry n)) 2 ≡ true → leb n 5 ≡ true
  pub empty : (n : ℕ) → is_operator n ≡ true → eqb (want_class (entry n)) 5 ≡ true → eqb n Operator.left_parenthesis ≡ true
  pub between : (n : ℕ) → is_operator n ≡ true → eqb (have_class (entry n)) 1 ≡ true → infix_test r grade n (entry n) ≡ true
  pub opener : (n : ℕ) → is_operator n ≡ true → eqb (have_class (entry n)) 2 ≡ true
      → is_one_of (Operator.left_brace ∷ Operator.left_bracket ∷ Operator.left_parenthesis ∷ []) n ≡ true
  pub minus : (n : ℕ) → is_operator n ≡ true → eqb (have_class (entry n)) 3 ≡ true → eqb n Operator.negate ≡ true
  pub not : (n : ℕ) → is_operator n ≡ true → eqb (have_class (entry n)) 4 ≡ true → eqb n Operator.logical_not ≡ true
  pub asks : (n : ℕ) → is_operator n ≡ true → eqb (have_class (entry n)) 7 ≡ true → (r.pairs_right && eqb n Operator.conditional) ≡ true
  pub colon : (n : ℕ) → is_operator n ≡ true → eqb (have_class (entry n)) 8 ≡ true → (r.pairs_right && eqb n Operator.conditional_else) ≡ true
  pub unary : (n : ℕ) → is_operator n ≡ true → eqb (minus_class (entry n)) 1 ≡ true → eqb n Operator.negate ≡ false
  pub binary : (n : ℕ) → is_operator n ≡ true → eqb (minus_class (entry n)) 2 ≡ true → binary_test n ≡ true
  pub call : (n : ℕ) → is_operator n ≡ true → eqb (call_class (entry n) % 2) 1 ≡ true → (eqb n Operator.query_function || math_test r n) ≡ true
  pub math : (n : ℕ) → is_operator n ≡ true → eqb (call_class (entry n)) 3 ≡ true → math_test r n ≡ true

-- ---- grades

-- A number more from a rank on.
unfoldable pub step : ℕ → ℕ → ℕ → ℕ
step a b j = elim (leb a j) [ true ↦ b | false ↦ 0 ]

step-up : (a b i j : ℕ) → i ≤ j → step a b i ≤ step a b j
unfolding step
step-up a b i j l = either (leb a i)
    (λ t. let m = leb-true a i t in rw (t, step) (rw (le-leb a j (omega (arith, l, m)), step) (omega arith)))
    (λ f. rw (f, step) (omega arith))

-- The grades: one more than the rank; from 5 one more from the conditional on; from 6 four more from the equalities on.
unfoldable pub grade_by : ℕ → ℕ → ℕ → ℕ
grade_by a b j = suc j + step 4 a j + step 7 b j

grades : (a b i j : ℕ) → i < j → grade_by a b i < grade_by a b j
unfolding grade_by
grades a b i j l = omega (arith, step-up 4 a i j (omega (arith, l)), step-up 7 b i j (omega (arith, l)), l)

-- ---- computed

unfoldable pub every_below : ℕ → (ℕ → Bool) → Bool
every_below zero P = true
every_below (suc n) P = P n && every_below n P

every : (m : ℕ) (P : ℕ → Bool) → every_below m P ≡ true → (n : ℕ) → n < m → P n ≡ true
unfolding every_below
every zero P h n l = absurd (omega arith)
every (suc m) P h n l =
    let p = (and-eq-true_iff (P m) (every_below m P)).0 h in
    let earlier : n < m → P n ≡ true = every m P p.1 n in
    either (eqb n m) (λ e. ap P (eqb-true n m e) ∙ p.0) (λ e. earlier (let q : ¬ (n ≡ m) = eqb-false n m e in omega arith))

pub implied : (a b : Bool) → implies a b ≡ true → a ≡ true → b ≡ true
unfolding implies
implied true b h t = h
implied false b h t = absurd (false≢true t)

-- A class of an entry, and what is told by it.
unfoldable pub tells : (ℕ → ℕ) → ℕ → (ℕ → ℕ → Bool) → ℕ → ℕ → Bool
tells class c test n e = implies (eqb (class e) c) (test n e)

module _ (table : List ℕ) where
  host-entry : (n : ℕ) → is_host n ≡ true → entry_in table n ≡ get_or table 111 0
  unfolding entry_in is_host Operator.between
  host-entry n h =
      let p = (and-eq-true_iff (leb 256 n) (leb n 1023)).0 h in
      let l = leb-true 256 n p.0 in
      rw (le-ltb n 111 (omega (arith, l)), entry_in) refl

  -- What is computed of the operators of document 01, and holds of hosts, is told.
  tell : (class : ℕ → ℕ) (c : ℕ) (test : ℕ → ℕ → Bool) → every_below 111 (λ n. tells class c test n (entry_in table n)) ≡ true
      → ((n : ℕ) → is_host n ≡ true → tells class c test n (get_or table 111 0) ≡ true)
      → (n : ℕ) → is_operator n ≡ true → eqb (class (entry_in table n)) c ≡ true → test n (entry_in table n) ≡ true
  unfolding is_operator tells
  tell class c test below hosts n o =
      implied (eqb (class (entry_in table n)) c) (test n (entry_in table n))
      (either (leb n 110)
      (λ t. let l = leb-true n 110 t in every 111 (λ n. tells class c test n (entry_in table n)) below n (omega (arith, l)))
      (λ f. let h : is_host n ≡ true = (rw f at o) in ap (tells class c test n) (host-entry n h) ∙ hosts n h))

-- ---- hosts

host-no : (n m : ℕ) → is_host n ≡ true → is_host m ≡ false → eqb n m ≡ false
host-no n m h o = apart is_host n m h o

host-operand : (n : ℕ) → is_host n ≡ true → is_operand n ≡ true
unfolding is_operand
host-operand n h =
    or-second
    (Operator.between Operator.query_function Operator.temp_variable n || Operator.between Operator.string_literal Operator.texture_variable n
    || Operator.between Operator.float Operator.continue n || Operator.between Operator.this Operator.expression_array n) (is_host n) h

host-leaf : (n : ℕ) → is_host n ≡ true → leaf_test n ≡ true
unfolding leaf_test
host-leaf n h = rw (host-no n Operator.negate h (unfold computed in refl)) (ap (λ (b : Bool). b && true) (host-operand n h))

host-before : (n : ℕ) → is_host n ≡ true → before_minus n ≡ Operator.operand
unfolding before_minus
host-before n h =
    rw (host-no n Operator.negate h (unfold computed in refl), before_minus)
    (rw (none_of is_host (Operator.continue ∷ Operator.expression_array ∷ []) n h (unfold computed in refl))
    (rw (none_of is_host operators_before n h (unfold computed in refl)) refl))

host-ends : (n : ℕ) → is_host n ≡ true → ends_before n ≡ true
unfolding ends_before
host-ends n h = rw (host-before n h, ends_before) refl

host-binary : (n : ℕ) → is_host n ≡ true → binary_test n ≡ true
unfolding binary_test implies
host-binary n h =
    rw (host-no n Operator.right_brace h (unfold computed in refl)) (rw (host-ends n h) (always (is_operand n)))
  where
    always : (b : Bool) → elim b [ true ↦ true | false ↦ true ] ≡ true
    always true = refl
    always false = refl

-- ---- the three tables

abbrev pub rules-below : Rules
rules-below = record { comparisons_first = false; and_first = false; pairs_right = false }

pub told_below : Told rules-below (entry_in below_five)
unfolding computed below_five want_class have_class minus_class call_class entry_in every_below tells implies leaf_test infix_test binary_test math_test grade_by step ends_before
told_below =
    record {
      grade = grade_by 0 0;
      ordered = grades 0 0;
      ground = λ j. omega arith;
      one = refl;
      plus = refl;
      question = λ t. absurd (false≢true t);
      height = omega arith;
      signs = refl;
      sum = omega arith;
      conditional = omega arith;
      leaf = tell below_five want_class 1 (λ n e. leaf_test n) refl (λ n h. host-leaf n h);
      closer = tell below_five want_class 2 (λ n e. leb n 5) refl (λ n h. refl);
      empty = tell below_five want_class 5 (λ n e. eqb n Operator.left_parenthesis) refl (λ n h. refl);
      between = tell below_five have_class 1 (λ n e. infix_test rules-below (grade_by 0 0) n e) refl (λ n h. refl);
      opener = tell below_five have_class 2 (λ n e. is_one_of (Operator.left_brace ∷ Operator.left_bracket ∷ Operator.left_parenthesis ∷ []) n) refl (λ n h. refl);
      minus = tell below_five have_class 3 (λ n e. eqb n Operator.negate) refl (λ n h. refl);
      not = tell below_five have_class 4 (λ n e. eqb n Operator.logical_not) refl (λ n h. refl);
      asks = tell below_five have_class 7 (λ n e. rules-below.pairs_right && eqb n Operator.conditional) refl (λ n h. refl);
      colon = tell below_five have_class 8 (λ n e. rules-below.pairs_right && eqb n Operator.conditional_else) refl (λ n h. refl);
      unary = λ n o c. not-true (eqb n Operator.negate) (tell below_five minus_class 1 (λ n e. not (eqb n Operator.negate)) refl (λ n h. refl) n o c);
      binary = tell below_five minus_class 2 (λ n e. binary_test n) refl (λ n h. host-binary n h);
      call = tell below_five (λ e. call_class e % 2) 1 (λ n e. eqb n Operator.query_function || math_test rules-below n) refl (λ n h. refl);
      math = tell below_five call_class 3 (λ n e. math_test rules-below n) refl (λ n h. refl);
    }

abbrev pub rules-five : Rules
rules-five = record { comparisons_first = false; and_first = false; pairs_right = true }

pub told-five : Told rules-five (entry_in at_five)
unfolding computed at_five want_class have_class minus_class call_class entry_in every_below tells implies leaf_test infix_test binary_test math_test grade_by step ends_before
told-five =
    record {
      grade = grade_by 1 0;
      ordered = grades 1 0;
      ground = λ j. omega arith;
      one = refl;
      plus = refl;
      question = λ t. refl;
      height = omega arith;
      signs = refl;
      sum = omega arith;
      conditional = omega arith;
      leaf = tell at_five want_class 1 (λ n e. leaf_test n) refl (λ n h. host-leaf n h);
      closer = tell at_five want_class 2 (λ n e. leb n 5) refl (λ n h. refl);
      empty = tell at_five want_class 5 (λ n e. eqb n Operator.left_parenthesis) refl (λ n h. refl);
      between = tell at_five have_class 1 (λ n e. infix_test rules-five (grade_by 1 0) n e) refl (λ n h. refl);
      opener = tell at_five have_class 2 (λ n e. is_one_of (Operator.left_brace ∷ Operator.left_bracket ∷ Operator.left_parenthesis ∷ []) n) refl (λ n h. refl);
      minus = tell at_five have_class 3 (λ n e. eqb n Operator.negate) refl (λ n h. refl);
      not = tell at_five have_class 4 (λ n e. eqb n Operator.logical_not) refl (λ n h. refl);
      asks = tell at_five have_class 7 (λ n e. rules-five.pairs_right && eqb n Operator.conditional) refl (λ n h. refl);
      colon = tell at_five have_class 8 (λ n e. rules-five.pairs_right && eqb n Operator.conditional_else) refl (λ n h. refl);
      unary = λ n o c. not-true (eqb n Operator.negate) (tell at_five minus_class 1 (λ n e. not (eqb n Operator.negate)) refl (λ n h. refl) n o c);
      binary = tell at_five minus_class 2 (λ n e. binary_test n) refl (λ n h. host-binary n h);
      call = tell at_five (λ e. call_class e % 2) 1 (λ n e. eqb n Operator.query_function || math_test rules-five n) refl (λ n h. refl);
      math = tell at_five call_class 3 (λ n e. math_test rules-five n) refl (λ n h. refl);
    }

abbrev pub rules-six : Rules
rules-six = record { comparisons_first = true; and_first = true; pairs_right = true }

pub told-six : Told rules-six (entry_in from_six)
unfolding computed from_six want_class have_class minus_class call_class entry_in every_below tells implies leaf_test infix_test binary_test math_test grade_by step ends_before
told-six =
    record {
      grade = grade_by 1 4;
      ordered = grades 1 4;
      ground = λ j. omega arith;
      one = refl;
      plus = refl;
      question = λ t. refl;
      height = omega arith;
      signs = refl;
      sum = omega arith;
      conditional = omega arith;
      leaf = tell from_six want_class 1 (λ n e. leaf_test n) refl (λ n h. host-leaf n h);
      closer = tell from_six want_class 2 (λ n e. leb n 5) refl (λ n h. refl);
      empty = tell from_six want_class 5 (λ n e. eqb n Operator.left_parenthesis) refl (λ n h. refl);
      between = tell from_six have_class 1 (λ n e. infix_test rules-six (grade_by 1 4) n e) refl (λ n h. refl);
      opener = tell from_six have_class 2 (λ n e. is_one_of (Operator.left_brace ∷ Operator.left_bracket ∷ Operator.left_parenthesis ∷ []) n) refl (λ n h. refl);
      minus = tell from_six have_class 3 (λ n e. eqb n Operator.negate) refl (λ n h. refl);
      not = tell from_six have_class 4 (λ n e. eqb n Operator.logical_not) refl (λ n h. refl);
      asks = tell from_six have_class 7 (λ n e. rules-six.pairs_right && eqb n Operator.conditional) refl (λ n h. refl);
      colon = tell from_six have_class 8 (λ n e. rules-six.pairs_right && eqb n Operator.conditional_else) refl (λ n h. refl);
      unary = λ n o c. not-true (eqb n Operator.negate) (tell from_six minus_class 1 (λ n e. not (eqb n Operator.negate)) refl (λ n h. refl) n o c);
      binary = tell from_six minus_class 2 (λ n e. binary_test n) refl (λ n h. host-binary n h);
      call = tell from_six (λ e. call_class e % 2) 1 (λ n e. eqb n Operator.query_function || math_test rules-six n) refl (λ n h. refl);
      math = tell from_six call_class 3 (λ n e. math_test rules-six n) refl (λ n h. refl);
    }
