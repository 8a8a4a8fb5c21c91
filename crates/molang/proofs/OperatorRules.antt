-- A node's rule is its operator's (card 5). A pass makes of the copy what it makes of the list, and gives children to operators of its own
-- number only; so between the passes every node with children has its operator's number, and a leaf none or its operator's.
use Prim.Native.Nat.{ℕ, zero, suc, ◌+◌, ◌≤◌, ◌<◌, max}
use mathlib.Core.{Path.{◌≡◌, refl, ap, sym, ◌∙◌}, Bool.{Bool, true, false, ◌&&◌, ◌||◌}, List.{List, [], ◌∷◌, ◌++◌}}
use mathlib.Core.Option
use mathlib.Core.Option.{Option, none, some}
use native.Mathlib.Omega.{arith}
use lib.{Dec.{eqb, leb}, IntN.{ℤ}, ListN.{length, get_or, length-append}}
use borrow.Author.Tests.{eqb-true, leb-true, eq-eqb, ne_eqb}
use Rattle.molang.specs.Operator
use Rattle.molang.specs.Operator.{any, is_one_of, between, is_math_call, is_query_or_loop, closing_of, is_closer}
use Rattle.molang.specs.Forest.{Token, Forest, nil, node, renamed, bare, closed_by, leaves, size}
use Rattle.molang.specs.{Message.{Message, complex_must_end_with_semicolon, Result, ok, fail, closer}, Calls.{math, calls}}
use Rattle.molang.specs.Order.{rules, Pass, last_token, member_accessors, sectioning, call_pass, statements, arrays, pointer, math_calls}
use Rattle.molang.specs.Order.{unary_minus_and_not, addition, conditional, returns, binary, comparisons, logic, conditionals, order}
use Rattle.molang.specs.{Order.{runs, last_of, ends_with_semicolon, apply}, Read.{tree, messages, rooted, ends_reading, grouped, read}}
use Rattle.molang.specs.Free.{is_nil, is_prefix, is_conditional, is_return}
use Rattle.molang.specs.Rules.{number_beside, binary_rule, rule_of, with_rule_number, unruled, with_rule, ruled, ruling, rules_in, copied}
use Rattle.molang.specs.{Rules.{rules_of}, OperatorRules.{operator_numbers, operator_rule, operator_rules}}
use Rattle.molang.proofs.{Trees.{decided, both}, Booleans.{false-true, or-first}, Walks.{after_run}}
use Rattle.molang.proofs.Relabelling.{Unnoticed, itself, relabelled, result_of, is_named, all_named, is_quiet, apply-natural}
use Rattle.molang.proofs.Every.{EveryNode, nowhere, at, every-so, Gives, nothing-given, gives, Grows, Renewable, Renews, apply-gives}
use Rattle.molang.proofs.Every.{grouped-every}
use Rattle.molang.proofs.Booleans

-- ---- The copy is read as the list is

unnoticed : Unnoticed unruled
unfolding unruled with_rule_number renamed bare closed_by
unnoticed =
    record {
      op = λ k. itself refl;
      start = λ k. refl;
      end = λ k. refl;
      renames = λ o k l. refl;
      bares = λ o k l. refl;
      closes = λ k o. refl;
    }

-- The trees are the same but for payloads.
abbrev Alike : Forest → Forest → Type 0
Alike f g = relabelled unruled f ≡ relabelled unruled g

copied-alike : (ks : List Token) → Alike (leaves (copied ks)) (leaves ks)
unfolding leaves copied relabelled unruled with_rule_number
copied-alike [] = refl
copied-alike (k ∷ ks) = ap (node (unruled k) nil) (copied-alike ks)

number-unseen : (n : ℕ) (k : Token) → unruled (with_rule n k) ≡ unruled k
unfolding with_rule unruled with_rule_number
number-unseen n k = decided (λ t. unruled t ≡ unruled k) (eqb k.value 0) _ _ (λ e. refl) (λ e. refl)

ruled-alike : (n : ℕ) (f : Forest) → Alike (ruled n f) f
unfolding ruled relabelled
ruled-alike n nil = refl
ruled-alike n (node k nil rest) = ap (node (unruled k) nil) (ruled-alike n rest)
ruled-alike n (node k (node c cs more) rest) = rw (number-unseen n k, ruled-alike n (node c cs more), ruled-alike n rest) refl

-- The source length stands in messages only.
length-unseen : (l : ℕ) (p : Pass) (f g : Forest) → apply l p f ≡ ok g → apply 0 p f ≡ ok g
unfolding apply ends_with_semicolon
length-unseen l last_token f g h = by (last_of none f) h
  where
    ended : ℕ → Option Token → Result
    ended n o =
        elim o [
          | none ↦ fail (complex_must_end_with_semicolon 0 n ∷ [])
          | some k ↦
              elim (eqb k.op Operator.semicolon) [
                | true ↦ ok f
                | false ↦ fail (complex_must_end_with_semicolon k.start k.end ∷ [])
              ]
        ]

    by : (o : Option Token) → ended l o ≡ ok g → ended 0 o ≡ ok g
    by none h = let z : ◌≡◌ {A = ℕ} 0 1 = cc in absurd (omega arith)
    by (some k) h = h
length-unseen l member_accessors f g h = h
length-unseen l sectioning f g h = h
length-unseen l call_pass f g h = h
length-unseen l statements f g h = h
length-unseen l arrays f g h = h
length-unseen l pointer f g h = h
length-unseen l math_calls f g h = h
length-unseen l unary_minus_and_not f g h = h
length-unseen l addition f g h = h
length-unseen l conditional f g h = h
length-unseen l returns f g h = h
length-unseen l (binary ops) f g h = h

-- A pass makes of the copy what it makes of the list.
apply-alike : (l : ℕ) (p : Pass) (f copy g : Forest) → is_quiet p ≡ true → Alike copy f → apply l p f ≡ ok g
    → result_of unruled (apply 0 p copy) ≡ ok (relabelled unruled g)
unfolding result_of
apply-alike l p f copy g quiet e h =
    let list : apply l p (relabelled unruled f) ≡ ok (relabelled unruled g) =
    apply-natural unruled unnoticed l p f quiet ∙ ap (result_of unruled) h in
    sym (apply-natural unruled unnoticed 0 p copy quiet) ∙ ap (apply 0 p) e
    ∙ length-unseen l p (relabelled unruled f) (relabelled unruled g) list

-- ---- The numbers

one_of_two : (a b o : ℕ) → (eqb o a || eqb o b) ≡ true → is_one_of (a ∷ b ∷ []) o ≡ true
unfolding is_one_of any
one_of_two a b o e = by (eqb o a) (eqb o b) e
  where
    by : (x y : Bool) → (x || y) ≡ true → (x || (y || false)) ≡ true
    by true y e = refl
    by false true e = refl
    by false false e = e

module _ (first : Bool) where
  -- A node of the copy between two passes, the numbers so far being below m: a leaf without a number, or its operator's number is on it.
  data Marked (m : ℕ) (k : Token) : Bool → Type 0 where
    unmarked : k.value ≡ 0 → Marked m k true
    marked : {leaf : Bool} → k.value ≡ operator_rule first k.op → 0 < k.value → k.value < m → Marked m k leaf

  -- A node of the copy after a pass of the number n: as before it, or without a number, its operator's being n.
  data Given (n m : ℕ) (k : Token) : Bool → Type 0 where
    before : {leaf : Bool} → Marked m k leaf → Given n m k leaf
    now : {leaf : Bool} → k.value ≡ 0 → operator_rule first k.op ≡ n → 0 < n → n < m → Given n m k leaf

  marked-higher : (m n : ℕ) → m ≤ n → (k : Token) (leaf : Bool) → Marked m k leaf → Marked n k leaf
  marked-higher m n h k leaf (unmarked e) = unmarked e
  marked-higher m n h k leaf (marked e a b) = marked e a (omega arith)

  emptied : (n m : ℕ) (k : Token) → Given n m k false → Given n m k true
  emptied n m k (before (marked e a b)) = before (marked e a b)
  emptied n m k (now e r a b) = now e r a b

  -- The pass's number is put on.
  module _ (n m : ℕ) where
    leaf-marked : (k : Token) → Given n m k true → Marked m k true
    leaf-marked k (before h) = h
    leaf-marked k (now e r a b) = unmarked e

    node-marked : (k : Token) (leaf : Bool) → Given n m k false → Marked m (with_rule n k) leaf
    unfolding with_rule with_rule_number
    node-marked k leaf (before (marked e a b)) =
        let other : eqb k.value 0 ≡ false = ne_eqb k.value 0 (λ z. omega arith) in rw (other, with_rule) (marked e a b)
    node-marked k leaf (now e r a b) = rw (eq-eqb k.value 0 e, with_rule) (marked (sym r) a b)

    ruled-marked : (f : Forest) → EveryNode (Given n m) f → EveryNode (Marked m) (ruled n f)
    unfolding ruled is_nil
    ruled-marked nil nowhere = nowhere
    ruled-marked (node k nil rest) (at q nowhere later) = at (leaf-marked k q) nowhere (ruled-marked rest later)
    ruled-marked (node k (node c cs more) rest) (at q below later) =
        at (node-marked k _ q) (ruled-marked (node c cs more) below) (ruled-marked rest later)

  -- At the end the numbers are the operators'.
  marked-rules : (m : ℕ) (f : Forest) → EveryNode (Marked m) f → rules_in f ≡ operator_rules first f
  unfolding rules_in operator_rules is_nil
  marked-rules m nil nowhere = refl
  marked-rules m (node k nil rest) (at q nowhere later) = ap (λ (ns : List ℕ). 0 ∷ ns) (marked-rules m rest later)
  marked-rules m (node k (node c cs more) rest) (at (marked e a b) below later) =
      rw (e, marked-rules m (node c cs more) below, marked-rules m rest later) refl

  rules-alike : (f : Forest) → operator_rules first (relabelled unruled f) ≡ operator_rules first f
  unfolding operator_rules relabelled unruled with_rule_number
  rules-alike nil = refl
  rules-alike (node k nil rest) = ap (λ (ns : List ℕ). 0 ∷ ns) (rules-alike rest)
  rules-alike (node k (node c cs more) rest) = rw (rules-alike (node c cs more), rules-alike rest) refl

  -- ---- A pass gives children to operators of its number only

  -- Each of the operators has the number n.
  unfoldable all_have : ℕ → List ℕ → Bool
  all_have n [] = true
  all_have n (o ∷ os) = eqb (operator_rule first o) n && all_have n os

  one_has : (n : ℕ) (os : List ℕ) → all_have n os ≡ true → (o : ℕ) → is_one_of os o ≡ true → operator_rule first o ≡ n
  unfolding all_have is_one_of any
  one_has n [] h o e = false-true e
  one_has n (c ∷ os) h o e =
      let split = both (eqb (operator_rule first c) n) (all_have n os) h in
      Booleans.either (eqb o c) (λ same. ap (operator_rule first) (eqb-true o c same) ∙ eqb-true (operator_rule first c) n split.0)
      (λ other. one_has n os split.1 o (rw other at e))

  -- The pass has a number, and each of the operators has it.
  unfoldable has : Pass → List ℕ → Bool
  has p os = leb 1 (rule_of p) && all_have (rule_of p) os

  -- The operators to which a pass gives children have its number; and before the unary pass, which makes pluses of minuses, all numbers are
  -- below the minus's.
  unfoldable fits : ℕ → Pass → Bool
  fits m last_token = true
  fits m member_accessors = has member_accessors (Operator.member_accessor ∷ [])
  fits m sectioning = has sectioning (Operator.left_brace ∷ Operator.left_bracket ∷ Operator.left_parenthesis ∷ [])
  fits m call_pass = has call_pass (Operator.query_function ∷ Operator.loop ∷ Operator.for_each ∷ [])
  fits m statements = has statements (Operator.semicolon ∷ [])
  fits m arrays = has arrays (Operator.array ∷ [])
  fits m pointer = has pointer (Operator.pointer ∷ [])
  fits m math_calls = has math_calls []
  fits m unary_minus_and_not = leb m (rule_of unary_minus_and_not) && has unary_minus_and_not (Operator.negate ∷ Operator.logical_not ∷ [])
  fits m addition = has addition (Operator.add ∷ [])
  fits m conditional = has conditional (Operator.conditional ∷ Operator.conditional_else ∷ [])
  fits m returns = has returns (Operator.return ∷ [])
  fits m (binary ops) = has (binary ops) ops

  -- The bound after a pass.
  abbrev bound_after : ℕ → Pass → ℕ
  bound_after m p = max m (rule_of p + 1)

  grown : (n m : ℕ) → 0 < n → n < m → (T : ℕ → Bool) → ((o : ℕ) → T o ≡ true → operator_rule first o ≡ n) → Grows (Given n m) T
  grown n m a b T r k t (before (unmarked e)) = now e (r k.op t) a b
  grown n m a b T r k t (before (marked e c d)) = before (marked e c d)
  grown n m a b T r k t (now e q c d) = now e q c d

  module _ (m : ℕ) (p : Pass) (os : List ℕ) (h : has p os ≡ true) where
    all_have_lem : (leb 1 (rule_of p) ≡ true) × (all_have (rule_of p) os ≡ true)
    all_have_lem = unfold has in both (leb 1 (rule_of p)) (all_have (rule_of p) os) h

    -- The leaves of operators with the pass's number.
    grown-with : (T : ℕ → Bool) → ((o : ℕ) → T o ≡ true → operator_rule first o ≡ rule_of p) → Grows (Given (rule_of p) (bound_after m p)) T
    grown-with = grown (rule_of p) (bound_after m p) (omega (arith, leb-true 1 (rule_of p) all_have_lem.0)) (omega arith)

    grown-among : Grows (Given (rule_of p) (bound_after m p)) (is_one_of os)
    grown-among = grown-with (is_one_of os) (one_has (rule_of p) os all_have_lem.1)

    -- A token without a number.
    fresh : (k : Token) → k.value ≡ 0 → is_one_of os k.op ≡ true → Given (rule_of p) (bound_after m p) k false
    fresh k e t = grown-among k t (before (unmarked e))

  -- A closer ends the section of an opener.
  opener : (n : ℕ) → is_closer (Option.get_or (closing_of n) 0) ≡ true
      → is_one_of (Operator.left_brace ∷ Operator.left_bracket ∷ Operator.left_parenthesis ∷ []) n ≡ true
  unfolding closing_of is_one_of any is_closer
  opener n =
      decided Opens (eqb n Operator.left_brace) _ _ (λ e h. rw e refl)
      (λ d. decided Opens (eqb n Operator.left_bracket) _ _ (λ e h. rw (d, e) refl)
      (λ c. decided Opens (eqb n Operator.left_parenthesis) _ _ (λ e h. rw (d, c, e) refl) (λ e h. false-true h)))
    where
      Opens : Option ℕ → Type 0
      Opens c = is_closer (Option.get_or c 0) ≡ true
          → is_one_of (Operator.left_brace ∷ Operator.left_bracket ∷ Operator.left_parenthesis ∷ []) n ≡ true

  section-given : (n m : ℕ) (k o : Token) → Given n m o false → Given n m (closed_by k o) false
  unfolding closed_by
  section-given n m k o (before (marked e a b)) = before (marked e a b)
  section-given n m k o (now e r a b) = now e r a b

  -- An array's name has no number.
  name-unruled : operator_rule first Operator.array_variable ≡ 0
  name-unruled = by first
    where
      by : (b : Bool) → operator_rule b Operator.array_variable ≡ 0
      by true = unfold operator_rule is_math_call between number_beside in refl
      by false = unfold operator_rule is_math_call between number_beside in refl

  name-unmarked : (n m : ℕ) (k : Token) (leaf : Bool) → k.op ≡ Operator.array_variable → Given n m k leaf → k.value ≡ 0
  name-unmarked n m k leaf o (before (unmarked e)) = e
  name-unmarked n m k leaf o (before (marked e a b)) =
      let z : k.value ≡ 0 = e ∙ ap (operator_rule first) o ∙ name-unruled in absurd (omega arith)
  name-unmarked n m k leaf o (now e r a b) = e

  math-rule : (o : ℕ) → calls math o ≡ true → operator_rule first o ≡ 7
  math-rule o e = unfold calls operator_rule in rw (e, operator_rule) refl

  -- A minus has no number before the unary pass.
  minus-unmarked : (m : ℕ) (k : Token) (leaf : Bool) → k.op ≡ Operator.negate → m ≤ operator_rule first Operator.negate → Marked m k leaf
      → (k.value ≡ 0) × (leaf ≡ true)
  minus-unmarked m k leaf o h (unmarked e) = (e, refl)
  minus-unmarked m k leaf o h (marked e a b) =
      let z : k.value ≡ operator_rule first Operator.negate = e ∙ ap (operator_rule first) o in absurd (omega arith)

  -- So a plus that was a minus has none.
  plus-unmarked : (n m : ℕ) (k : Token) (leaf : Bool) → (k.value ≡ 0) × (leaf ≡ true) → Given n m (renamed Operator.add k) leaf
  unfolding renamed
  plus-unmarked n m k true e = before (unmarked e.0)
  plus-unmarked n m k false e = false-true e.1

  prefixes : (m : ℕ) → fits m unary_minus_and_not ≡ true
      → Renews (Marked m) (Given (rule_of unary_minus_and_not) (bound_after m unary_minus_and_not)) unary_minus_and_not
  unfolding fits is_prefix is_one_of any bare
  prefixes m h =
      let p = unary_minus_and_not in
      let e = both (leb m (rule_of p)) (has p (Operator.negate ∷ Operator.logical_not ∷ [])) h in
      let eight : operator_rule first Operator.negate ≡ rule_of p = one_has (rule_of p) _ (all_have_lem m p _ e.1).1 Operator.negate refl in
      let low : m ≤ operator_rule first Operator.negate = omega (arith, leb-true m (rule_of p) e.0) in
      record {
        plus = λ k leaf o q. plus-unmarked (rule_of p) (bound_after m p) k leaf (minus-unmarked m k leaf o low q);
        minus = λ k q. fresh m p _ e.1 (bare Operator.negate k) refl refl;
        grows = λ k t q. grown-among m p _ e.1 k (one_of_two Operator.negate Operator.logical_not k.op t) q;
      }

  renews : (m : ℕ) (p : Pass) → fits m p ≡ true → Renews (Marked m) (Given (rule_of p) (bound_after m p)) p
  unfolding fits is_return is_conditional is_one_of any calls is_query_or_loop closer bare renamed
  renews m last_token h = tt
  renews m member_accessors h = λ k e q. grown-among m member_accessors _ h k (or-first _ _ e) q
  renews m sectioning h = λ k o e c q r.
      section-given _ _ k o (grown-among m sectioning _ h o (opener o.op (ap is_closer e ∙ c)) r)
  renews m call_pass h = grown-among m call_pass _ h
  renews m statements h = λ k leaf q. fresh m statements _ h (bare Operator.semicolon k) refl refl
  renews m arrays h = λ k o q. fresh m arrays _ h (renamed Operator.array k) (name-unmarked _ _ k true o q) refl
  renews m pointer h = grown-among m pointer _ h
  renews m math_calls h = grown-with m math_calls [] h (calls math) (unfold rule_of in math-rule)
  renews m unary_minus_and_not h = prefixes m h
  renews m addition h = grown-among m addition _ h
  renews m conditional h = λ k e q. grown-among m conditional _ h k (one_of_two Operator.conditional Operator.conditional_else k.op e) q
  renews m returns h = λ k e q. grown-among m returns _ h k (or-first _ _ e) q
  renews m (binary ops) h = grown-among m (binary ops) ops h

  -- A pass that fits gives children to operators of its number only.
  apply-given : (m : ℕ) (p : Pass) → fits m p ≡ true → (f : Forest) → EveryNode (Marked m) f
      → Gives (Given (rule_of p) (bound_after m p)) (apply 0 p f)
  apply-given m p h f e =
      let n = bound_after m p in
      apply-gives (Given (rule_of p) n) (emptied (rule_of p) n) (Marked m) (λ k leaf q. before (marked-higher m n (omega arith) k leaf q))
      0 p f (renews m p h) e

  -- Each of the passes is quiet and fits, m being the bound before the first.
  unfoldable all_fit : ℕ → List Pass → Bool
  all_fit m [] = true
  all_fit m (p ∷ ps) = is_quiet p && (fits m p && all_fit (bound_after m p) ps)

  -- ---- All passes

  module _ (l : ℕ) (u : ℕ → Bool) (root : Token) (below : Forest) where
    -- From here on the numbers come out as the operators', where the list's tree is the root over what is below it.
    abbrev Comes : ℕ → List Pass → Type 0
    Comes m ps = (so_far : List Message) (f copy : Forest) → EveryNode (Marked m) copy → Alike copy f
        → grouped l u ps so_far f ≡ tree root below
        → rules_in (ruling u ps copy) ≡ operator_rules first (node root below nil)

    comes-rooted : (m : ℕ) → Comes m []
    unfolding grouped rooted ruling
    comes-rooted m so_far nil copy h e t = let z : ◌≡◌ {A = ℕ} 0 1 = cc in absurd (omega arith)
    comes-rooted m so_far (node x xs nil) copy h e t =
        let same : node x xs nil ≡ node root below nil = cc in
        marked-rules m copy h ∙ sym (rules-alike copy) ∙ ap (operator_rules first) e ∙ rules-alike (node x xs nil)
        ∙ ap (operator_rules first) same
    comes-rooted m so_far (node x xs (node y ys r)) copy h e t = let z : ◌≡◌ {A = ℕ} 0 1 = cc in absurd (omega arith)

    -- No tree comes of the empty list.
    no-tree : (ps : List Pass) (so_far : List Message) → grouped l u ps so_far nil ≡ tree root below → ⊥
    no-tree ps so_far t = none_left (grouped-every (λ k. ⊥) nothing-new l u ps so_far nil root below nowhere t)
      where
        nothing-new : Renewable (λ k. ⊥)
        nothing-new =
            record {
              plus = λ k m q. q;
              array = λ k m q. q;
              statement = λ k q. q;
              minus = λ k q. q;
              section = λ k o m c q r. q;
            }

        none_left : EveryNode (λ k leaf. ⊥) (node root below nil) → ⊥
        none_left (at q cs rest) = q

    module _ (m : ℕ) (p : Pass) (ps : List Pass) (fit : fits m p ≡ true) (quiet : is_quiet p ≡ true)
        (later : Comes (bound_after m p) ps) where
      -- `ruling` after a pass that runs, by what the pass gives.
      unfoldable after_ruling : Result → Forest
      after_ruling x = elim x [ ok g ↦ ruling u ps (ruled (rule_of p) g) | fail m ↦ nil ]

      given-comes : (so_far : List Message) (g : Forest) {y : Result} → Gives (Given (rule_of p) (bound_after m p)) y
          → result_of unruled y ≡ ok (relabelled unruled g) → grouped l u ps so_far g ≡ tree root below
          → rules_in (after_ruling y) ≡ operator_rules first (node root below nil)
      unfolding after_ruling result_of
      given-comes so_far g nothing-given e t = let z : ◌≡◌ {A = ℕ} 0 1 = cc in absurd (omega arith)
      given-comes so_far g (gives {g = copy} h) e t =
          let same : Alike copy g = cc in
          later so_far g (ruled (rule_of p) copy) (ruled-marked (rule_of p) (bound_after m p) copy h) (ruled-alike (rule_of p) copy ∙ same)
          t

      run-comes : (so_far : List Message) (f copy : Forest) → EveryNode (Marked m) copy → Alike copy f → (x : Result) → apply l p f ≡ x
          → after_run l u p ps so_far x ≡ tree root below
          → rules_in (after_ruling (apply 0 p copy)) ≡ operator_rules first (node root below nil)
      unfolding after_run
      run-comes so_far f copy h e (ok g) a t = given-comes so_far g (apply-given m p fit copy h) (apply-alike l p f copy g quiet e a) t
      run-comes so_far f copy h e (fail ms) a t = absurd (failed (ends_reading p) t)
        where
          failed : (b : Bool) → (elim b [ true ↦ messages (so_far ++ ms) | false ↦ grouped l u ps (so_far ++ ms) nil ]) ≡ tree root below
              → ⊥
          failed true t = let z : ◌≡◌ {A = ℕ} 0 1 = cc in absurd (omega arith)
          failed false t = no-tree ps (so_far ++ ms) t

      comes-on : Comes m (p ∷ ps)
      unfolding grouped ruling after_run after_ruling
      comes-on so_far f copy h e t = by (runs u p) t
        where
          by : (b : Bool)
              → (elim b [ false ↦ grouped l u ps so_far f | true ↦ after_run l u p ps so_far (apply l p f) ]) ≡ tree root below
              → rules_in (elim b [ false ↦ ruling u ps copy | true ↦ after_ruling (apply 0 p copy) ])
              ≡ operator_rules first (node root below nil)
          by false t =
              let n = bound_after m p in
              later so_far f copy (every-so (Marked m) (Marked n) (marked-higher m n (omega arith)) h) e t
          by true t = run-comes so_far f copy h e (apply l p f) refl t

    comes : (m : ℕ) (ps : List Pass) → all_fit m ps ≡ true → Comes m ps
    unfolding all_fit
    comes m [] h = comes-rooted m
    comes m (p ∷ ps) h =
        let e = both (is_quiet p) (fits m p && all_fit (bound_after m p) ps) h in
        let f = both (fits m p) (all_fit (bound_after m p) ps) e.1 in
        comes-on m p ps f.0 e.0 (comes (bound_after m p) ps f.1)

  unmarked-leaves : (ks : List Token) → EveryNode (Marked 0) (leaves (copied ks))
  unfolding leaves copied unruled with_rule_number is_nil
  unmarked-leaves [] = nowhere
  unmarked-leaves (k ∷ ks) = at (unmarked refl) nowhere (unmarked-leaves ks)

-- The passes of every version fit.
order-fits : (a b c : Bool) → all_fit a 0 (order (record { comparisons_first = a; and_first = b; pairs_right = c })) ≡ true
unfolding order comparisons logic conditionals all_fit is_quiet all_named is_named fits has all_have rule_of binary_rule number_beside operator_rule
    is_math_call between
order-fits = Booleans.eight-ways (λ a b c. all_fit a 0 (order (record { comparisons_first = a; and_first = b; pairs_right = c })) ≡ true)
    refl refl refl refl refl refl refl refl

-- A NODE'S RULE IS ITS OPERATOR'S: where a tree comes, each node's number is that of its operator, its children and the version.
pub rules-by-operator : (tokens : List Token) (u : ℕ → Bool) (version : ℤ) (source_length : ℕ) (k : Token) (cs : Forest)
    → read tokens u version source_length ≡ tree k cs
    → rules_of tokens u version ≡ operator_rules (rules version).comparisons_first (node k cs nil)
unfolding read rules_of
rules-by-operator ts u v l k cs e =
    let r = rules v in
    comes r.comparisons_first l u k cs 0 (order r) (order-fits r.comparisons_first r.and_first r.pairs_right)
    [] (leaves ts) (leaves (copied ts)) (unmarked-leaves r.comparisons_first ts) (copied-alike ts) e

-- ---- How many numbers there are, and how high they go

-- A number for each node.
pub rule-count : (first : Bool) (f : Forest) → length (operator_rules first f) ≡ size f
unfolding operator_rules size
rule-count first nil = refl
rule-count first (node k nil rest) = omega (arith, rule-count first rest)
rule-count first (node k (node c cs more) rest) =
    let both-parts = length-append (operator_rules first (node c cs more)) (operator_rules first rest) in
    omega (arith, both-parts, rule-count first (node c cs more), rule-count first rest)

-- The highest number of a table.
unfoldable highest_of : List (ℕ × ℕ) → ℕ
highest_of [] = 0
highest_of (entry ∷ entries) = max entry.1 (highest_of entries)

beside-small : (n : ℕ) (entries : List (ℕ × ℕ)) → number_beside n entries ≤ highest_of entries
unfolding number_beside highest_of
beside-small n [] = omega arith
beside-small n (entry ∷ entries) =
    decided (λ (x : ℕ). x ≤ max entry.1 (highest_of entries)) (eqb entry.0 n) _ _ (λ e. omega arith)
    (λ e. omega (arith, beside-small n entries))

-- No operator's number is above 20.
pub operator-small : (first : Bool) (n : ℕ) → operator_rule first n ≤ 20
unfolding operator_rule highest_of
operator-small first n =
    decided (λ (x : ℕ). x ≤ 20) (is_math_call n) _ _ (λ e. omega arith)
    (λ e. decided (λ (x : ℕ). x ≤ 20) (first && (eqb n Operator.logical_equal || eqb n Operator.logical_not_equal)) _ _ (λ e. omega arith)
    (λ e. beside-small n operator_numbers))

small-append : (m : ℕ) (xs ys : List ℕ) → ((i : ℕ) → get_or xs i 0 ≤ m) → ((i : ℕ) → get_or ys i 0 ≤ m) → (i : ℕ) → get_or (xs ++ ys) i 0 ≤ m
small-append m [] ys g h i = h i
small-append m (x ∷ xs) ys g h zero = g 0
small-append m (x ∷ xs) ys g h (suc i) = small-append m xs ys (λ j. g (suc j)) h i

-- No node's number is above 20: it is a byte.
pub rule-small : (first : Bool) (f : Forest) (i : ℕ) → get_or (operator_rules first f) i 0 ≤ 20
unfolding operator_rules
rule-small first nil i = omega arith
rule-small first (node k nil rest) zero = omega arith
rule-small first (node k nil rest) (suc i) = rule-small first rest i
rule-small first (node k (node c cs more) rest) zero = operator-small first k.op
rule-small first (node k (node c cs more) rest) (suc i) =
    small-append 20 (operator_rules first (node c cs more)) (operator_rules first rest) (rule-small first (node c cs more))
    (rule-small first rest) i
