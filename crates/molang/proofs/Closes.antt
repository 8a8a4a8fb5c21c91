-- Where nodes close (card 2): in the tree of a reading every node that is no opener closes at its own end. All tokens that
-- are written of a plain tree close at their own ends, as the tokens of a word list must.
use Prim.Native.Nat.{ℕ, suc, ◌+◌}
use mathlib.Core.{Path.{◌≡◌, refl, ap, sym, ◌∙◌}, Bool.{Bool, true, false, false≢true, true≢false}, List.{List, [], ◌∷◌}}
use mathlib.Core.Option.{none, get_or}
use lib.{Dec.{eqb}, IntN.{ℤ}}
use borrow.Author.Tests.{eqb-true}
use Rattle.molang.specs.Operator
use Rattle.molang.specs.Operator.{closing_of, is_closer, is_bracket, is_one_of}
use Rattle.molang.specs.{Forest.{Token, Forest, nil, node, renamed, bare, closed_by, unclosed, leaves, size}, Message.{closer}}
use Rattle.molang.specs.{Read.{Answer, read}, Plain.{Seat, seat_under, is_plain_leaf, is_plain_binary, is_call, expression_form, unplain_at}}
use Rattle.molang.specs.Write.{spanning, opener_for, closer_for, closer_of, stands_alone, stands_left, stands_right, operand_tokens, written}
use Rattle.molang.specs.Write.{written_statements, written_tree}
use Rattle.molang.proofs.Computed.{computed}
use Rattle.molang.proofs.PlainTrees.{PlainExpression, PlainStatements, ended, statement, PlainTree, expression, script, inner}
use Rattle.molang.proofs.{PlainTrees.{plain-tree}, Words.{AtEnds}, Every.{Every, nowhere, at, Renewable, read-every}}
use Rattle.molang.proofs.Writing.{written_none, written_one, written-two, written_tree-expression, written_tree-script}

-- A node that is no opener closes at its own end.
abbrev pub Closes : Token → Type 0
Closes k = closing_of k.op ≡ none → k.close ≡ k.end

-- What a closer matches is an opener.
closer-matches : (k o : Token) → closer o ≡ k.op → is_closer k.op ≡ true → closing_of o.op ≡ none → o.end ≡ k.end
unfolding closer computed
closer-matches k o e c h =
    let zero : k.op ≡ 0 = sym e ∙ ap (λ c. get_or c 0) h in absurd (false≢true (sym (ap is_closer zero) ∙ c))

closes-new : Renewable Closes
unfolding renamed bare closed_by computed
closes-new =
    record {
      plus = λ k m h e. h (ap closing_of m);
      array = λ k m h e. h (ap closing_of m);
      statement = λ k h e. refl;
      minus = λ k h e. refl;
      section = λ k o m c h g e. sym (closer-matches k o m c e);
    }

closes-leaves : (ks : List Token) → AtEnds ks → Every Closes (leaves ks)
unfolding leaves
closes-leaves [] h = nowhere
closes-leaves (k ∷ ks) h = at (λ e. h.0) nowhere (closes-leaves ks h.1)

-- EVERY READING: outside sections a node's seventh word is its span's end.
pub read-closes : (tokens : List Token) (u : ℕ → Bool) (version : ℤ) (source_length : ℕ) (k : Token) (cs : Forest) → AtEnds tokens
    → read tokens u version source_length ≡ Answer.tree k cs → Every Closes (node k cs nil)
read-closes ts u v l k cs h e = read-every Closes closes-new ts u v l k cs (closes-leaves ts h) e

-- No form is plain for an operator that none of the forms names.
unnamed : (p : Seat) (k : Token) (cs : Forest) (n : ℕ) → k.op ≡ n → is_plain_leaf n ≡ false → is_bracket n ≡ false
    → is_one_of (Operator.left_parenthesis ∷ Operator.negate ∷ Operator.logical_not ∷ []) n ≡ false → is_call n ≡ false → is_plain_binary n ≡ false
    → eqb n Operator.conditional_else ≡ false → eqb n Operator.return ≡ false → eqb n Operator.assignment ≡ false
    → expression_form p k cs ≡ false
unfolding expression_form
unnamed p k nil n e l b s c t q r a = rw (e, l, b) refl
unnamed p k (node x xs nil) n e l b s c t q r a = rw (e, s, c, r) refl
unnamed p k (node x xs (node y ys nil)) n e l b s c t q r a = rw (e, t, q, a) refl
unnamed p k (node x xs (node y ys (node z zs more))) n e l b s c t q r a = refl

no-brace : (p : Seat) (k : Token) (cs : Forest) → k.op ≡ Operator.left_brace → expression_form p k cs ≡ false
unfolding computed
no-brace p k cs e = unnamed p k cs Operator.left_brace e refl refl refl refl refl refl refl refl

no-square : (p : Seat) (k : Token) (cs : Forest) → k.op ≡ Operator.left_bracket → expression_form p k cs ≡ false
unfolding computed
no-square p k cs e = unnamed p k cs Operator.left_bracket e refl refl refl refl refl refl refl refl

-- A bracket over two children is not plain.
no-bracket : (p : Seat) (k x : Token) (xs : Forest) (y : Token) (ys : Forest) → is_bracket k.op ≡ true
    → expression_form p k (node x xs (node y ys nil)) ≡ false
unfolding computed
no-bracket p k x xs y ys e =
    let four : k.op ≡ Operator.left_parenthesis = eqb-true k.op Operator.left_parenthesis e in rw four refl

-- The one plain opener is the bracket.
plain-opener : (p : Seat) (k : Token) (cs : Forest) → expression_form p k cs ≡ true → is_bracket k.op ≡ false → closing_of k.op ≡ none
unfolding closing_of is_bracket
plain-opener p k cs h b = split (eqb k.op Operator.left_brace) (eqb k.op Operator.left_bracket) refl refl
  where
    split : (x y : Bool) → eqb k.op Operator.left_brace ≡ x → eqb k.op Operator.left_bracket ≡ y → closing_of k.op ≡ none
    split true y d e = absurd (true≢false (sym h ∙ no-brace p k cs (eqb-true k.op Operator.left_brace d)))
    split false true d e = absurd (true≢false (sym h ∙ no-square p k cs (eqb-true k.op Operator.left_bracket e)))
    split false false d e = rw (d, closing_of) (rw e (rw b refl))

-- F puts tokens that close at their own ends before such tokens.
abbrev KeepsEnds : (List Token → List Token) → Type 0
KeepsEnds F = (r : List Token) → AtEnds r → AtEnds (F r)

operand-ends : (b : Bool) (k : Token) (cs : Forest) (F : List Token → List Token) → KeepsEnds F → KeepsEnds (operand_tokens b k cs F)
unfolding operand_tokens opener_for closer_for spanning
operand-ends true k cs F f r l = f r l
operand-ends false k cs F f r l = (refl, f (closer_for k cs ∷ r) (refl, l))

written-ends : (p : Seat) (n : ℕ) (k : Token) (cs : Forest) → PlainExpression p n k cs → Closes k → Every Closes cs
    → KeepsEnds (written k cs)
unfolding unclosed closed_by closer_of spanning
written-ends p n k nil h c below r l = split (is_bracket k.op) refl
  where
    split : (b : Bool) → is_bracket k.op ≡ b → AtEnds (written k nil r)
    split true e = rw (written_none true k r e) (refl, (refl, l))
    split false e = rw (written_none false k r e) (c (plain-opener p k nil h.form e), l)
written-ends p n k (node x xs nil) h c (at cx cxs nowhere) r l =
    let a = inner k 0 n x xs nil h.other h.below in
    split (is_bracket k.op) refl (written-ends (seat_under k 0) (suc n) x xs a.0 cx cxs)
  where
    split : (b : Bool) → is_bracket k.op ≡ b → KeepsEnds (written x xs) → AtEnds (written k (node x xs nil) r)
    split true e i = rw (written_one true k x xs r e) (refl, i (closer_of k ∷ r) (refl, l))
    split false e i =
        rw (written_one false k x xs r e)
        (c (plain-opener p k (node x xs nil) h.form e), operand-ends (stands_alone x xs) x xs (written x xs) i r l)
written-ends p n k (node x xs (node y ys nil)) h c (at cx cxs (at cy cys nowhere)) r l =
    let a = inner k 0 n x xs (node y ys nil) h.other h.below in
    let b = inner k 1 (suc n + size xs) y ys nil h.other a.1 in
    let right = operand-ends (stands_right k y ys) y ys (written y ys)
    (written-ends (seat_under k 1) (suc (suc n + size xs)) y ys b.0 cy cys) r l in
    rw (written-two k x xs y ys r)
    (operand-ends (stands_left k x xs) x xs (written x xs)
    (written-ends (seat_under k 0) (suc n) x xs a.0 cx cxs) _ (own (is_bracket k.op) refl, right))
  where
    own : (b : Bool) → is_bracket k.op ≡ b → k.close ≡ k.end
    own true e = absurd (false≢true (sym (no-bracket p k x xs y ys e) ∙ h.form))
    own false e = c (plain-opener p k (node x xs (node y ys nil)) h.form e)
written-ends p n k (node x xs (node y ys (node z zs more))) h c below r l = absurd (false≢true (unfold expression_form in h.form))

-- A statement's semicolon closes at its own end.
statements-end : (cs : Forest) → PlainStatements cs → Every Closes cs → AtEnds (written_statements cs [])
unfolding written_statements bare
statements-end nil ended c = tt
statements-end (node s nil rest) x4 c = elim x4 [ ]
statements-end (node s (node x xs (node _ _ _)) rest) x11 c = elim x11 [ ]
statements-end (node s (node x xs nil) rest) (statement _ n _ h e later) (at c (at cx cxs nowhere) after) =
    written-ends _ n x xs e cx cxs _ (refl, statements-end rest later after)

-- The tokens that are written of a plain tree, outside whose sections nodes close at their own ends, close at their own ends.
pub plain-ends : (k : Token) (cs : Forest) → unplain_at k cs ≡ none → Every Closes (node k cs nil) → AtEnds (written_tree k cs)
plain-ends k cs plain (at c below nowhere) = split cs (plain-tree k cs plain) below
  where
    split : (cs : Forest) → PlainTree k cs → Every Closes cs → AtEnds (written_tree k cs)
    split cs (expression e) below = rw (written_tree-expression k cs e.other) (written-ends _ 1 k cs e c below [] tt)
    split cs (script h s) below = rw (written_tree-script k cs h) (statements-end cs s below)
