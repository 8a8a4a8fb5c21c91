-- The operators of plain nodes, by the forms of document 01: what a leaf is, what stands between two operands, what a call stands before.
use Prim.Native.Nat.{ℕ}
use mathlib.Core.{Path.{◌≡◌, refl, sym, ◌∙◌}, Bool.{true, false, ◌||◌, ◌&&◌, false≢true, and-eq-true_iff, or-false}, List.{[], ◌∷◌}}
use lib.Dec.{eqb, lit<}
use borrow.Author.Tests.{eqb-true}
use Rattle.molang.specs.Operator
use Rattle.molang.specs.{Operator.{is_one_of, is_host, is_bracket}, Forest.{Token, Forest, nil, node}, Grammar.{is_operand}}
use Rattle.molang.specs.{Plain.{Seat, is_under_semicolon, is_plain_leaf, is_plain_binary, is_call, expression_form}, Write.{stands_alone}}
use Rattle.molang.proofs.{Booleans.{either, or-second}, OperatorNumbers.{implied, not-one, not-between, none_of}}
use Rattle.molang.proofs.{Computed.{computed}, Grammar.Numbers.{apart, infixes}}

-- A leaf of a plain tree is an operand.
pub leaf-operand : (n : ℕ) → is_plain_leaf n ≡ true → is_operand n ≡ true
unfolding computed
leaf-operand = implied is_plain_leaf is_operand refl (λ n l t. or-second
    (Operator.between 40 44 n || Operator.between 46 49 n || Operator.between 61 70 n || Operator.between 76 77 n) (is_host n) (rw (
      not-one 40 (lit< tt) n l,
      not-between 42 44 (lit< tt) n l,
      not-between 46 49 (lit< tt) n l,
      not-one 61 (lit< tt) n l,
      not-one 62 (lit< tt) n l,
      not-one 76 (lit< tt) n l,
    ) at t))

binary-infix : (n : ℕ) → is_plain_binary n ≡ true → is_one_of infixes n ≡ true
unfolding computed
binary-infix = implied is_plain_binary (is_one_of infixes) refl (λ n l t. absurd (false≢true (rw (
  not-one 9 (lit< tt) n l,
  not-one 20 (lit< tt) n l,
  not-one 31 (lit< tt) n l,
  not-between 50 59 (lit< tt) n l,
  not-one 75 (lit< tt) n l,
) at t)))

pub infix-form : (p : Seat) (k x : Token) (xs : Forest) (y : Token) (ys : Forest) → expression_form p k (node x xs (node y ys nil)) ≡ true
    → is_one_of infixes k.op ≡ true
unfolding expression_form
infix-form p k x xs y ys h =
    either (is_plain_binary k.op) (binary-infix k.op)
    (λ f. either (eqb k.op Operator.conditional_else)
    (λ t. rw (eqb-true k.op Operator.conditional_else t) (unfold computed in refl))
    (λ g. let b : (eqb k.op Operator.assignment && is_under_semicolon p) ≡ true = (rw (f, g) at h) in
    rw (eqb-true k.op Operator.assignment ((and-eq-true_iff (eqb k.op Operator.assignment) (is_under_semicolon p)).0 b).0)
    (unfold computed in refl)))

-- A call stands before its bracket.
pub call-bracket : (p : Seat) (k x : Token) (xs : Forest) → expression_form p k (node x xs nil) ≡ true → is_call k.op ≡ true
    → is_bracket x.op ≡ true
unfolding expression_form
call-bracket p k x xs h j =
    let f = none_of is_call (Operator.left_parenthesis ∷ Operator.negate ∷ Operator.logical_not ∷ []) k.op j (unfold computed in refl) in
    let g = apart is_call k.op Operator.return j (unfold computed in refl) in
    let o : (is_call k.op && is_bracket x.op || false) ≡ true = (rw (f, g) at h) in
    ((and-eq-true_iff (is_call k.op) (is_bracket x.op)).0 (sym (or-false _) ∙ o)).1

-- A bracket needs no pair.
pub bracket-alone : (k : Token) (cs : Forest) → is_bracket k.op ≡ true → stands_alone k cs ≡ true
unfolding stands_alone
bracket-alone k nil b = refl
bracket-alone k (node x xs rest) b = b
