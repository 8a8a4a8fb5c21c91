-- With brackets taken away, the tree as which a plain expression is read (Paired) is the expression.
use Prim.Native.Nat.{ℕ, suc, ◌+◌}
use mathlib.Core.{Path.{◌≡◌, refl, ap, sym, ◌∙◌}, Bool.{Bool, true, false, ◌||◌, not, false≢true, or-true}}
use Rattle.molang.specs.Operator
use Rattle.molang.specs.{Operator.{is_one_of, is_bracket}, Forest.{Token, Forest, nil, node, size}, Write.{opener_for, stands_alone}}
use Rattle.molang.specs.{Plain.{Seat, seat_under, is_call, expression_form}, Write.{stands_left, stands_right, taken_away}}
use Rattle.molang.proofs.{Booleans.{either}, Computed.{computed}, PlainTrees.{PlainExpression, inner}}
use Rattle.molang.proofs.{Paired.{operand_tree, paired, paired-one, paired-two}, Grammar.Numbers.{apart, infixes, unmath}}
use Rattle.molang.proofs.TakingAway.{taken-later, taken-kept, taken-call, taken-bracket}
use Rattle.molang.proofs.RoundTrip.Forms.{infix-form, call-bracket, bracket-alone}

-- Of the node k over cs, over ds the same is left.
abbrev Same : Token → Forest → Forest → Type 0
Same k cs ds = (in_call : Bool) (R : Forest) → taken_away in_call (node k ds nil) R ≡ taken_away in_call (node k cs nil) R

taken-operand : (c b : Bool) (k : Token) (cs : Forest) → (not c || b) ≡ true → Same k cs (paired k cs) → (rest R : Forest)
    → taken_away c (operand_tree b k cs (paired k cs) rest) R ≡ taken_away c (node k cs nil) (taken_away c rest R)
unfolding operand_tree computed
taken-operand c true k cs h i rest R = taken-later c k (paired k cs) rest R ∙ i c (taken_away c rest R)
taken-operand true false k cs h i rest R = absurd (false≢true h)
taken-operand false false k cs h i rest R =
    taken-later false (opener_for k cs) (node k (paired k cs) nil) rest R
    ∙ taken-bracket (opener_for k cs) k (paired k cs) (taken_away false rest R) refl ∙ i false (taken_away false rest R)

-- A bracket is taken away, unless it is a call's.
taken-inside : (k x : Token) (xs ds : Forest) → is_bracket k.op ≡ true → Same x xs ds → Same k (node x xs nil) (node x ds nil)
taken-inside k x xs ds b i true R =
    taken-call k (node x ds nil) R ∙ ap (λ (f : Forest). node k f R) (i (is_call k.op) nil) ∙ sym (taken-call k (node x xs nil) R)
taken-inside k x xs ds b i false R = taken-bracket k x ds R b ∙ i false R ∙ sym (taken-bracket k x xs R b)

pub taken-paired : (p : Seat) (n : ℕ) (k : Token) (cs : Forest) → PlainExpression p n k cs → Same k cs (paired k cs)
unfolding taken_away is_bracket is_call
taken-paired p n k nil e c R = unfold paired in refl
taken-paired p n k (node x xs nil) e c R =
    let a = inner k 0 n x xs nil e.other e.below in
    let i : Same x xs (paired x xs) = taken-paired (seat_under k 0) (suc n) x xs a.0 in
    let h : (not (is_call k.op) || stands_alone x xs) ≡ true = either (is_call k.op)
    (λ t. rw (bracket-alone x xs (call-bracket p k x xs e.form t)) (or-true (not (is_call k.op)))) (λ f. rw f refl) in
    either (is_bracket k.op) (λ b. rw (paired-one true k x xs b) (taken-inside k x xs (paired x xs) b i c R))
    (λ b. rw (paired-one false k x xs b) (taken-kept c k _ R b
    ∙ ap (λ (f : Forest). node k f R) (taken-operand (is_call k.op) (stands_alone x xs) x xs h i nil nil)
    ∙ sym (taken-kept c k (node x xs nil) R b)))
taken-paired p n k (node x xs (node y ys nil)) e c R =
    let a = inner k 0 n x xs (node y ys nil) e.other e.below in
    let b = inner k 1 (suc n + size xs) y ys nil e.other a.1 in
    let o = infix-form p k x xs y ys e.form in
    let d : is_bracket k.op ≡ false = apart (is_one_of infixes) k.op Operator.left_parenthesis o (unfold computed in refl) in
    let q : is_call k.op ≡ false = rw (
      apart (is_one_of infixes) k.op Operator.query_function o (unfold computed in refl),
      unmath (is_one_of infixes) (unfold computed in refl) k.op o,
    ) refl in
    rw (paired-two k x xs y ys)
    (taken-kept c k _ R d
    ∙ ap (λ (f : Forest). node k f R) (rw q (taken-operand false (stands_left k x xs) x xs refl
    (taken-paired (seat_under k 0) (suc n) x xs a.0) _ nil
    ∙ ap (taken_away false (node x xs nil)) (taken-operand false (stands_right k y ys) y ys refl
    (taken-paired (seat_under k 1) (suc (suc n + size xs)) y ys b.0) nil nil) ∙ sym (taken-later false x xs (node y ys nil) nil)))
    ∙ sym (taken-kept c k (node x xs (node y ys nil)) R d))
taken-paired p n k (node x xs (node y ys (node z zs more))) e c R = absurd (false≢true (unfold expression_form in e.form))
