-- WHAT IS WRITTEN IS A TEXT of the grammar, under the rules of every version: a plain expression, or what a statement holds, has a text
-- whose tokens are its writing and whose tree is the expression with a bracket where writing adds a pair (Paired). Its operands are leaves
-- and brackets, which hold tighter than every operator, up to the two that get no pair: a comma left of a comma, and the `:` of a `?`.
use Prim.Native.Nat.{ℕ, suc, ◌+◌, ◌≤◌}
use mathlib.Core.{Path.{◌≡◌, refl, ap, sym, ◌∙◌}, Bool.{Bool, true, false, ◌||◌, ◌&&◌, true≢false, false≢true, and-false, or-true}}
use mathlib.Core.{Bool.{and-eq-true_iff, or-false}, List.{List, [], ◌∷◌}, Option.{none}}
use native.Mathlib.Omega.{arith}
use lib.{Dec.{eqb, leb}, ListN.{length}}
use borrow.Author.Tests.{eqb-true, eq-eqb, leb-true, le-leb}
use Rattle.molang.specs.Operator
use Rattle.molang.specs.{Operator.{any, is_one_of, is_math_call, is_query_or_loop, is_bracket}, Free.{is_prefix, is_conditional, operators_of}}
use Rattle.molang.specs.{Forest.{Token, Forest, nil, node, size, closed_by, unclosed}, Order.{Rules, Pass, order}}
use Rattle.molang.specs.Plain.{Seat, is_right_of_question, is_under_math_call, is_under_semicolon, seat_under, is_plain_leaf, is_plain_binary}
use Rattle.molang.specs.{Plain.{is_call, expression_form}, Statements.{is_entered}, Read.{uses}}
use Rattle.molang.specs.Write.{spanning, opener_for, closer_for, closer_of, stands_alone, stands_left, stands_right, operand_tokens, written}
use Rattle.molang.specs.Grammar.{Text, operand, section, query, math_call, math_empty, prefix, returned, between, choice, chosen}
use Rattle.molang.specs.Grammar.{tokens, rank_in, rank, strength, fits, is_infix, a_statement, is_list, outline, begins_with, lacks}
use Rattle.molang.specs.Grammar.{is_pair, is_round, is_text, signed, trees}
use Rattle.molang.proofs.{Booleans.{either, eight-ways, or-neither, or-only-first}, Computed.{computed}}
use Rattle.molang.proofs.{OperatorNumbers.{every, each-one}, Grammar.Numbers.{apart, infixes, unmath}}
use Rattle.molang.proofs.PlainTrees.{seat-cases, other-seat, left-seat, right-seat, PlainExpression, inner}
use Rattle.molang.proofs.{Paired.{operand_tree, paired, paired-one, paired-two}, Writing.{written_none, written_one, written-two}}
use Rattle.molang.proofs.{Grammar.Levels.{ruled}, RoundTrip.Forms.{leaf-operand, infix-form, call-bracket, bracket-alone}}
use Rattle.molang.proofs.{RoundTrip.Stated.{is_stated, operand-unstated, written-unstated}}

-- ---- operators

-- What may stand between operands is an operator of the grammar under all rules; from 5 all but `?` and `:`.
abbrev infix_or : Bool → Bool → Bool → ℕ → Bool
infix_or c a p n = is_infix (ruled c a p) n || (p && is_conditional n)

infix-all : (c a p : Bool) → every (infix_or c a p) infixes ≡ true
unfolding every computed
infix-all = eight-ways (λ c a p. every (infix_or c a p) infixes ≡ true) refl refl refl refl refl refl refl refl

an-infix : (c a p : Bool) (n : ℕ) → is_one_of infixes n ≡ true → (p && is_conditional n) ≡ false → is_infix (ruled c a p) n ≡ true
an-infix c a p n h o = or-only-first _ (p && is_conditional n) o (each-one (infix_or c a p) infixes (infix-all c a p) n h)

-- Below 5 a `:` binds tighter than its `?`.
colon-tighter : (c a p : Bool) → p ≡ false
    → leb (suc (rank (ruled c a p) Operator.conditional)) (rank (ruled c a p) Operator.conditional_else) ≡ true
unfolding computed
colon-tighter true true false e = refl
colon-tighter true false false e = refl
colon-tighter false true false e = refl
colon-tighter false false false e = refl
colon-tighter c a true e = absurd (true≢false e)

between-leb : (l m n : ℕ) → leb (suc l) m ≡ true → leb m n ≡ true → leb (suc l) n ≡ true
between-leb l m n h i = le-leb (suc l) n (omega (arith, leb-true (suc l) m h, leb-true m n i))

-- The rank of an operator is below the number of passes.
rank-low : (ps : List Pass) (n : ℕ) → rank_in ps n ≤ length ps
unfolding rank_in
rank-low [] n = omega arith
rank-low (p ∷ ps) n =
    let m = rank-low ps n in
    either (operators_of p n) (λ t. rw (t, rank_in) (omega arith)) (λ f. rw (f, rank_in) (omega arith))

rank-first : (p : Pass) (ps : List Pass) (n : ℕ) → suc (rank_in (p ∷ ps) n) ≤ length (p ∷ ps)
unfolding rank_in
rank-first p ps n =
    let m = rank-low ps n in
    either (operators_of p n) (λ t. rw (t, rank_in) (omega arith)) (λ f. rw (f, rank_in) (omega arith))

rank_below : (r : Rules) (n : ℕ) → suc (rank r n) ≤ length (order r)
unfolding rank order
rank_below r n = rank-first _ _ n

-- ---- operands

-- A leaf, and what stands in a pair.
data Operand : Text → Type 0 where
  single : (k : Token) → is_plain_leaf k.op ≡ true → Operand (operand k)
  paired-in : (o c : Token) (x : Text) → o.op ≡ Operator.left_parenthesis → Operand (section o c x)

tight : (r : Rules) (n : ℕ) {t : Text} → Operand t → n ≤ length (order r) → leb n (strength r t) ≡ true
unfolding strength
tight r n (single k h) l = le-leb n _ l
tight r n (paired-in o c x e) l = le-leb n _ l

unsigned : {t : Text} → Operand t → begins_with Operator.negate (tokens t []) ≡ false
unfolding tokens begins_with computed
unsigned (single k h) = apart is_plain_leaf k.op Operator.negate h refl
unsigned (paired-in o c x e) = rw e refl

expression : {t : Text} → Operand t → (outline t).sort ≡ a_statement
unfolding outline
expression (single k h) = refl
expression (paired-in o c x e) = refl

shut : {t : Text} → Operand t → (outline t).is_open ≡ false
unfolding outline
shut (single k h) = refl
shut (paired-in o c x e) = refl

-- The text is that of the node k over cs as it stands in its parent's: as it is (b), or in an added pair.
pub record Writes (b : Bool) (k : Token) (cs : Forest) (t : Text) : Type 0 where
  pub spells : (ks : List Token) → tokens t ks ≡ operand_tokens b k cs (written k cs) ks
  pub becomes : (f : Forest) → trees none t f ≡ operand_tree b k cs (paired k cs) f

-- A text that begins with the operator k before its operand, and one with k between its operands.
writes_one : (k x : Token) (xs : Forest) (X t : Text) → is_bracket k.op ≡ false → Writes (stands_alone x xs) x xs X
    → ((ks : List Token) → tokens t ks ≡ k ∷ tokens X ks)
    → ((f : Forest) → trees none t f ≡ node k (trees none X nil) f) → Writes true k (node x xs nil) t
unfolding operand_tokens operand_tree
writes_one k x xs X t b w i j = record {
  spells = λ ks. i ks ∙ ap (◌∷◌ k) (w.spells ks) ∙ sym (written_one false k x xs ks b);
  becomes = λ f. j f ∙ ap (λ (g : Forest). node k g f) (w.becomes nil ∙ sym (paired-one false k x xs b));
}

writes-two : (k x : Token) (xs : Forest) (y : Token) (ys : Forest) (X Y t : Text) → Writes (stands_left k x xs) x xs X
    → Writes (stands_right k y ys) y ys Y
    → ((ks : List Token) → tokens t ks ≡ tokens X (k ∷ tokens Y ks))
    → ((f : Forest) → trees none t f ≡ node k (trees none X (trees none Y nil)) f) → Writes true k (node x xs (node y ys nil)) t
unfolding operand_tokens operand_tree
writes-two k x xs y ys X Y t w v i j = record {
  spells = λ ks. i ks ∙ w.spells (k ∷ tokens Y ks)
      ∙ ap (λ (l : List Token). operand_tokens (stands_left k x xs) x xs (written x xs) (k ∷ l)) (v.spells ks)
      ∙ sym (written-two k x xs y ys ks);
  becomes = λ f. j f ∙ ap (λ (g : Forest). node k g f) (w.becomes (trees none Y nil)
      ∙ ap (operand_tree (stands_left k x xs) x xs (paired x xs)) (v.becomes nil) ∙ sym (paired-two k x xs y ys));
}

-- The pair of a bracket of the tree, and an added one.
own_pair : (k x : Token) (xs : Forest) (X : Text) → is_bracket k.op ≡ true → Writes true x xs X
    → Writes true k (node x xs nil) (section (unclosed k) (closer_of k) X)
unfolding operand_tokens operand_tree tokens trees signed unclosed closed_by closer_of spanning
own_pair k x xs X b w = record {
  spells = λ ks. ap (◌∷◌ (unclosed k)) (w.spells (closer_of k ∷ ks)) ∙ sym (written_one true k x xs ks b);
  becomes = λ f. ap (λ (g : Forest). node k g f) (w.becomes nil ∙ sym (paired-one true k x xs b));
}

added-pair : (b : Bool) (k : Token) (cs : Forest) (X : Text) → b ≡ false → Writes true k cs X
    → Writes b k cs (section (opener_for k cs) (closer_for k cs) X)
unfolding operand_tokens operand_tree tokens trees signed closed_by opener_for closer_for spanning
added-pair true k cs X e w = absurd (true≢false e)
added-pair false k cs X e w = record {
  spells = λ ks. ap (◌∷◌ (opener_for k cs)) (w.spells (closer_for k cs ∷ ks));
  becomes = λ f. ap (λ (g : Forest). node (opener_for k cs) g f) (w.becomes nil);
}

writes-empty : (k x : Token) → is_bracket k.op ≡ false → is_bracket x.op ≡ true
    → Writes true k (node x nil nil) (math_empty k (unclosed x) (closer_of x))
unfolding operand_tokens operand_tree tokens trees signed unclosed closed_by closer_of spanning stands_alone paired
writes-empty k x b e = record {
  spells = λ ks. sym (written_one false k x nil ks b ∙ ap (◌∷◌ k) (written_none true x ks e));
  becomes = λ f. ap (λ (g : Forest). node k g f) (sym (paired-one false k x nil b));
}

-- ---- under the rules of a version

-- Where a node's children stand.
argument-seat : (k : Token) (i : ℕ) → is_math_call k.op ≡ false → is_under_math_call (seat_under k i) ≡ false
unfolding is_under_math_call
argument-seat k i h = seat-cases (λ s. is_under_math_call s ≡ false) k i (λ e. absurd (true≢false (sym e ∙ h))) (λ e. refl) (λ e. refl) refl

module _ (c a p : Bool) where
  abbrev r : Rules
  r = ruled c a p

  section-holds : (o d : Token) (x : Text) → o.op ≡ Operator.left_parenthesis → d.op ≡ Operator.right_parenthesis
      → (outline x).sort ≡ a_statement
      → is_text r x ≡ true → is_text r (section o d x) ≡ true
  unfolding is_text is_pair is_round is_list
  section-holds o d x e f s h = rw (e, f, s, h) refl

  -- A text of the node k over cs in its place: as it is (b) or in an added pair, under the rules, and with what the place asks of it.
  pub record Part (Q : Text → Type 0) (b : Bool) (k : Token) (cs : Forest) : Type 0 where
    pub text : Text
    pub writes : Writes b k cs text
    pub holds : is_text r text ≡ true
    pub fits : Q text

  -- A whole expression, or what a statement holds; an operator between operands holds as tightly as it binds.
  pub record Whole (k : Token) (t : Text) : Type 0 where
    pub states : (outline t).sort ≡ a_statement
    pub strong : is_one_of infixes k.op ≡ true → leb (rank r k.op) (strength r t) ≡ true

  -- A whole text of a node.
  abbrev pub Spelt : Token → Forest → Type 0
  Spelt k cs = Part (Whole k) true k cs

  -- What the operator k asks on its left, and on its right.
  abbrev Left : Token → Text → Type 0
  Left k t = leb (rank r k.op) (strength r t) ≡ true

  abbrev Right : Token → Text → Type 0
  Right k t = leb (suc (rank r k.op)) (strength r t) ≡ true

  module _ {Q : Text → Type 0} {k : Token} {cs : Forest} where
    -- What stands as it is.
    as-it-is : (b : Bool) → b ≡ true → Part Q true k cs → Part Q b k cs
    as-it-is true e x = x
    as-it-is false e x = absurd (false≢true e)

    weaker : {P : Text → Type 0} {b : Bool} → ((t : Text) → Q t → P t) → Part Q b k cs → Part P b k cs
    weaker w x = record { text = x.text; writes = x.writes; holds = x.holds; fits = w x.text x.fits }

  operand-whole : (k : Token) (t : Text) → Operand t → Whole k t
  operand-whole k t w = record { states = expression w; strong = λ o. tight r _ w (omega (arith, rank_below r k.op)) }

  -- A leaf, a bracket of the tree, and what gets a pair.
  leaf-part : (k : Token) → is_plain_leaf k.op ≡ true → Part Operand true k nil
  unfolding tokens trees signed operand_tokens operand_tree paired is_text is_bracket
  leaf-part k h = record {
    text = operand k;
    writes = record {
      spells = λ ks. sym (written_none false k ks (apart is_plain_leaf k.op Operator.left_parenthesis h (unfold computed in refl)));
      becomes = λ f. refl;
    };
    holds = leaf-operand k.op h;
    fits = single k h;
  }

  bracket-part : (k x : Token) (xs : Forest) → is_bracket k.op ≡ true → Spelt x xs → Part Operand true k (node x xs nil)
  unfolding unclosed closed_by closer_of spanning is_bracket
  bracket-part k x xs b y =
      let e : k.op ≡ Operator.left_parenthesis = eqb-true k.op Operator.left_parenthesis b in
      record {
        text = section (unclosed k) (closer_of k) y.text;
        writes = own_pair k x xs y.text b y.writes;
        holds = section-holds (unclosed k) (closer_of k) y.text e refl y.fits.states y.holds;
        fits = paired-in (unclosed k) (closer_of k) y.text e;
      }

  pair-part : (b : Bool) (k : Token) (cs : Forest) → b ≡ false → Spelt k cs → Part Operand b k cs
  unfolding opener_for closer_for spanning
  pair-part b k cs e y = record {
    text = section (opener_for k cs) (closer_for k cs) y.text;
    writes = added-pair b k cs y.text e y.writes;
    holds = section-holds (opener_for k cs) (closer_for k cs) y.text refl refl y.fits.states y.holds;
    fits = paired-in (opener_for k cs) (closer_for k cs) y.text refl;
  }

  -- A node of a plain tree in its seat: a leaf; the empty bracket of a math call; a bracket over what has no semicolon; any other text.
  data Node (q : Seat) (k : Token) : Forest → Type 0 where
    leaf : is_plain_leaf k.op ≡ true → Node q k nil
    hollow : is_bracket k.op ≡ true → is_under_math_call q ≡ true → Node q k nil
    bracket : {x : Token} {xs : Forest} → is_bracket k.op ≡ true → uses (written x xs []) Operator.semicolon ≡ false → Spelt x xs
        → Node q k (node x xs nil)
    other : {cs : Forest} → stands_alone k cs ≡ false → eqb k.op Operator.conditional_else ≡ false → Spelt k cs → Node q k cs

  -- The `:` of a `?` is a text with it only.
  data Spelled (q : Seat) (k : Token) : Forest → Type 0 where
    plainly : {cs : Forest} → Node q k cs → Spelled q k cs
    colon : {t e : Token} {ts es : Forest} → k.op ≡ Operator.conditional_else → is_right_of_question q ≡ true
        → Part Operand (stands_left k t ts) t ts
        → Part Operand (stands_right k e es) e es → Spelled q k (node t ts (node e es nil))

  node_of : {q : Seat} {k : Token} {cs : Forest} → Spelled q k cs → (is_right_of_question q ≡ true → ⊥) → Node q k cs
  node_of (plainly n) h = n
  node_of (colon e s t f) h = absurd (h s)

  left-node : (k x : Token) (xs : Forest) → Spelled (seat_under k 0) x xs → Node (seat_under k 0) x xs
  left-node k x xs y = node_of y (λ h. true≢false (sym h ∙ left-seat k))

  spelt : {q : Seat} {k : Token} {cs : Forest} → Node q k cs → is_under_math_call q ≡ false → Spelt k cs
  spelt {k = k} (leaf h) m = weaker (operand-whole k) (leaf-part k h)
  spelt (hollow b u) m = absurd (true≢false (sym u ∙ m))
  spelt {k = k} (bracket {x} {xs} b l y) m = weaker (operand-whole k) (bracket-part k x xs b y)
  spelt (other s d y) m = y

  -- An operand: what stands alone as it is, the rest in an added pair.
  operand-part : {q : Seat} {k : Token} {cs : Forest} (b : Bool) → Node q k cs → is_under_math_call q ≡ false
      → (stands_alone k cs ≡ true → b ≡ true)
      → (stands_alone k cs ≡ false → eqb k.op Operator.conditional_else ≡ false → b ≡ false) → Part Operand b k cs
  unfolding stands_alone
  operand-part {k = k} b (leaf h) m t f = as-it-is b (t refl) (leaf-part k h)
  operand-part b (hollow h u) m t f = absurd (true≢false (sym u ∙ m))
  operand-part {k = k} b (bracket {x} {xs} h l y) m t f = as-it-is b (t h) (bracket-part k x xs h y)
  operand-part {k = k} {cs} b (other s d y) m t f = pair-part b k cs (f s d) y

  -- On the left of the operator o, and on its right.
  left-part : {q : Seat} {k : Token} {cs : Forest} (o : Token) → is_one_of infixes o.op ≡ true → Node q k cs → is_under_math_call q ≡ false
      → Part (Left o) (stands_left o k cs) k cs
  unfolding stands_left
  left-part {k = k} {cs} o i n m =
      either (eqb o.op Operator.comma && eqb k.op Operator.comma)
      (λ t. let e = (and-eq-true_iff (eqb o.op Operator.comma) (eqb k.op Operator.comma)).0 t in
      let d : k.op ≡ o.op = eqb-true k.op Operator.comma e.1 ∙ sym (eqb-true o.op Operator.comma e.0) in
      as-it-is _ (rw t (or-true (stands_alone k cs))) (weaker (λ x w. rw d at (w.strong (rw d i))) (spelt n m)))
      (λ f. weaker (λ x w. tight r _ w (omega (arith, rank_below r o.op)))
      (operand-part _ n m (λ h. rw h refl) (λ h d. rw (h, f) refl)))

  left-operand : {q : Seat} {k : Token} {cs : Forest} (o : Token) → eqb o.op Operator.comma ≡ false → Node q k cs
      → is_under_math_call q ≡ false
      → Part Operand (stands_left o k cs) k cs
  unfolding stands_left
  left-operand o e n m = operand-part _ n m (λ h. rw h refl) (λ h d. rw (h, e) refl)

  right_operand : {q : Seat} {k : Token} {cs : Forest} (o : Token) → Node q k cs → is_under_math_call q ≡ false
      → Part Operand (stands_right o k cs) k cs
  unfolding stands_right
  right_operand o n m = operand-part _ n m (λ h. rw h refl) (λ h d. rw (h, d) (and-false (eqb o.op Operator.conditional)))

  right-fits : (o : Token) (t : Text) → Operand t → Right o t
  right-fits o t w = tight r _ w (rank_below r o.op)

  -- ---- two children

  infix-whole : (k : Token) (x y : Text) → Whole k (between k x y)
  unfolding outline strength
  infix-whole k x y = record { states = refl; strong = λ o. le-leb (rank r k.op) _ (omega arith) }

  between-spelt : (k x : Token) (xs : Forest) (y : Token) (ys : Forest) → is_infix r k.op ≡ true
      → Part (Left k) (stands_left k x xs) x xs
      → Part (Right k) (stands_right k y ys) y ys → Spelt k (node x xs (node y ys nil))
  unfolding tokens trees is_text fits
  between-spelt k x xs y ys i l z = record {
    text = between k l.text z.text;
    writes = writes-two k x xs y ys l.text z.text _ l.writes z.writes (λ ks. refl) (λ f. refl);
    holds = rw (i, l.fits, z.fits, l.holds, z.holds) refl;
    fits = infix-whole k l.text z.text;
  }

  above : {t : Text} → Operand t → leb (suc (rank r Operator.conditional)) (strength r t) ≡ true
  above w = tight r _ w (rank_below r Operator.conditional)

  beside : {t : Text} → Operand t → leb (rank r Operator.conditional) (strength r t) ≡ true
  beside w = tight r _ w (omega (arith, rank_below r Operator.conditional))

  -- `c ? t` from 5.
  choice-spelt : (k x : Token) (xs : Forest) (y : Token) (ys : Forest) → k.op ≡ Operator.conditional → p ≡ true
      → Part Operand (stands_left k x xs) x xs
      → Part Operand (stands_right k y ys) y ys → Spelt k (node x xs (node y ys nil))
  unfolding tokens trees is_text outline strength
  choice-spelt k x xs y ys e q l z = record {
    text = choice k l.text z.text;
    writes = writes-two k x xs y ys l.text z.text _ l.writes z.writes (λ ks. refl) (λ f. refl);
    holds = rw (eq-eqb k.op Operator.conditional e, above l.fits, beside z.fits, l.holds, z.holds, q) refl;
    fits = record { states = refl; strong = λ o. le-leb (rank r k.op) _ (omega arith) };
  }

  -- `c ? t : e` from 5.
  chosen-spelt : (k x : Token) (xs : Forest) (y : Token) (t e : Token) (ts es : Forest) → k.op ≡ Operator.conditional
      → y.op ≡ Operator.conditional_else
      → p ≡ true → stands_right k y (node t ts (node e es nil)) ≡ true → Part Operand (stands_left k x xs) x xs
      → Part Operand (stands_left y t ts) t ts
      → Part Operand (stands_right y e es) e es → Spelt k (node x xs (node y (node t ts (node e es nil)) nil))
  unfolding tokens trees is_text outline strength
  chosen-spelt k x xs y t e ts es o d q s l m z = record {
    text = chosen k y l.text m.text z.text;
    writes = writes-two k x xs y (node t ts (node e es nil)) l.text (between y m.text z.text) _ l.writes
        (rw s (writes-two y t ts e es m.text z.text _ m.writes z.writes (λ ks. refl) (λ f. refl))) (λ ks. refl) (λ f. refl);
    holds = rw (
      eq-eqb k.op Operator.conditional o,
      eq-eqb y.op Operator.conditional_else d,
      above l.fits,
      beside m.fits,
      shut m.fits,
      beside z.fits,
      l.holds,
      m.holds,
      z.holds,
      q,
    ) refl;
    fits = record { states = refl; strong = λ i. le-leb (rank r k.op) _ (omega arith) };
  }

  -- Below 5 a `?` and its `:` are operators between operands.
  colon-right : (k y t e : Token) (ts es : Forest) → k.op ≡ Operator.conditional → y.op ≡ Operator.conditional_else → p ≡ false
      → stands_right k y (node t ts (node e es nil)) ≡ true
      → Part Operand (stands_left y t ts) t ts
      → Part Operand (stands_right y e es) e es → Part (Right k) (stands_right k y (node t ts (node e es nil))) y (node t ts (node e es nil))
  colon-right k y t e ts es o d q s m z =
      let i : is_one_of infixes y.op ≡ true = rw d (unfold computed in refl) in
      as-it-is _ s (weaker (λ x (w : Whole y x). rw o (between-leb _ _ (strength r x) (colon-tighter c a p q) (rw d at (w.strong i))))
      (between-spelt y t ts e es (an-infix c a p y.op i (rw q refl))
      (weaker (λ x w. tight r _ w (omega (arith, rank_below r y.op))) m) (weaker (right-fits y) z)))

  -- A `?` and what follows it.
  question : {q : Seat} (k x : Token) (xs : Forest) (y : Token) (ys : Forest) → k.op ≡ Operator.conditional → Node q x xs
      → is_under_math_call q ≡ false
      → Spelled (seat_under k 1) y ys → is_under_math_call (seat_under k 1) ≡ false → Spelt k (node x xs (node y ys nil))
  unfolding stands_right
  question k x xs y ys e n m z f = by ys z
    where
      l : Part Operand (stands_left k x xs) x xs
      l = left-operand k (rw e (unfold computed in refl)) n m

      below : p ≡ false → is_infix r k.op ≡ true
      below q = an-infix c a p k.op (rw e (unfold computed in refl)) (rw q refl)

      loosely : Part (Left k) (stands_left k x xs) x xs
      loosely = weaker (λ x w. tight r _ w (omega (arith, rank_below r k.op))) l

      by : (ys : Forest) → Spelled (seat_under k 1) y ys → Spelt k (node x xs (node y ys nil))
      by ys (plainly o) =
          let z = right_operand k o f in
          either p (λ q. choice-spelt k x xs y ys e q l z) (λ q. between-spelt k x xs y ys (below q) loosely (weaker (right-fits k) z))
      by (node t ts (node u us nil)) (colon d s v w) =
          let g : stands_right k y (node t ts (node u us nil)) ≡ true =
          rw (eq-eqb k.op Operator.conditional e, eq-eqb y.op Operator.conditional_else d)
          (or-true (stands_alone y (node t ts (node u us nil)))) in
          either p (λ q. chosen-spelt k x xs y t u ts us e d q g l v w)
          (λ q. between-spelt k x xs y (node t ts (node u us nil)) (below q) loosely (colon-right k y t u ts us e d q g v w))

  two : (q : Seat) (k x : Token) (xs : Forest) (y : Token) (ys : Forest) → expression_form q k (node x xs (node y ys nil)) ≡ true
      → Node (seat_under k 0) x xs
      → Spelled (seat_under k 1) y ys → Spelled q k (node x xs (node y ys nil))
  unfolding expression_form stands_alone is_bracket is_conditional is_plain_binary Operator.between
  two q k x xs y ys h n z = split (eqb k.op Operator.conditional_else) (eqb k.op Operator.conditional) refl refl
    where
      i : is_one_of infixes k.op ≡ true
      i = infix-form q k x xs y ys h

      alone : stands_alone k (node x xs (node y ys nil)) ≡ false
      alone = apart (is_one_of infixes) k.op Operator.left_parenthesis i (unfold computed in refl)

      seat : (j : ℕ) → is_under_math_call (seat_under k j) ≡ false
      seat j = argument-seat k j (unmath (is_one_of infixes) (unfold computed in refl) k.op i)

      right : eqb k.op Operator.conditional ≡ false → Node (seat_under k 1) y ys
      right o = node_of z (λ s. true≢false (sym (right-seat k s) ∙ o))

      split : (b d : Bool) → eqb k.op Operator.conditional_else ≡ b → eqb k.op Operator.conditional ≡ d
          → Spelled q k (node x xs (node y ys nil))
      split true d e f =
          let g = eqb-true k.op Operator.conditional_else e in
          colon g (sym (or-false (is_right_of_question q)) ∙ (rw g at h)) (left-operand k (rw g (unfold computed in refl)) n (seat 0))
          (right_operand k (right (rw g (unfold computed in refl))) (seat 1))
      split false true e f =
          plainly (other alone e (question k x xs y ys (eqb-true k.op Operator.conditional f) n (seat 0) z (seat 1)))
      split false false e f =
          plainly (other alone e (between-spelt k x xs y ys (an-infix c a p k.op i (rw (f, e) (and-false p))) (left-part k i n (seat 0))
          (weaker (right-fits k) (right_operand k (right f) (seat 1)))))

  -- ---- one child

  prefix-spelt : (k x : Token) (xs : Forest) → is_prefix k.op ≡ true → Part Operand (stands_alone x xs) x xs → Spelt k (node x xs nil)
  unfolding tokens trees signed is_text outline strength is_bracket
  prefix-spelt k x xs h z = record {
    text = prefix k z.text;
    writes = writes_one k x xs z.text _ (apart is_prefix k.op Operator.left_parenthesis h (unfold computed in refl)) z.writes
        (λ ks. refl) (λ f. refl);
    holds = rw (
      h,
      tight r (rank r k.op) z.fits (omega (arith, rank_below r k.op)),
      unsigned z.fits,
      and-false (eqb k.op Operator.negate),
      z.holds,
    ) refl;
    fits = record { states = refl; strong = λ o. le-leb (rank r k.op) _ (omega arith) };
  }

  return-spelt : (k x : Token) (xs : Forest) → k.op ≡ Operator.return → Part Operand (stands_alone x xs) x xs
      → uses (operand_tokens (stands_alone x xs) x xs (written x xs) []) Operator.return ≡ false
      → Spelt k (node x xs nil)
  unfolding tokens trees signed is_text outline lacks is_one_of any
  return-spelt k x xs e z u = record {
    text = returned k z.text;
    writes = writes_one k x xs z.text _ (rw e (unfold computed in refl)) z.writes (λ ks. refl) (λ f. refl);
    holds = rw (
      e,
      tight r 1 z.fits (omega (arith, rank_below r 0)),
      z.writes.spells [],
      u,
      z.holds,
    ) (unfold computed in refl);
    fits = record { states = refl; strong = λ o. absurd (false≢true (rw e at o)) };
  }

  -- What stands in the bracket of a call.
  data Inside (q : Seat) : Forest → Type 0 where
    nothing : is_under_math_call q ≡ true → Inside q nil
    something : {x : Token} {xs : Forest} → uses (written x xs []) Operator.semicolon ≡ false → Spelt x xs → Inside q (node x xs nil)

  inside : {q : Seat} {k : Token} {cs : Forest} → is_bracket k.op ≡ true → Node q k cs → Inside q cs
  unfolding is_bracket
  inside {k = k} b (leaf h) =
      absurd (true≢false (sym b ∙ apart is_plain_leaf k.op Operator.left_parenthesis h (unfold computed in refl)))
  inside b (hollow h u) = nothing u
  inside b (bracket h l y) = something l y
  inside {k = k} {cs} b (other s d y) = absurd (true≢false (sym (bracket-alone k cs b) ∙ s))

  -- A call before its bracket.
  query-spelt : (k x : Token) (xs : Forest) → k.op ≡ Operator.query_function → is_bracket x.op ≡ true → Inside (seat_under k 0) xs
      → Spelt k (node x xs nil)
  unfolding tokens trees signed is_text is_round is_pair is_list outline lacks strength unclosed closed_by closer_of spanning is_bracket
      is_query_or_loop is_one_of any is_entered uses operand_tokens
  query-spelt k x nil e b (nothing u) = absurd (true≢false (sym u ∙ argument-seat k 0 (rw e (unfold computed in refl))))
  query-spelt k x (node z zs (node _ _ _)) e b x9 = elim x9 [ ]
  query-spelt k x (node z zs nil) e b (something l y) = record {
    text = query k (unclosed x) (closer_of x) y.text;
    writes = writes_one k x (node z zs nil) (section (unclosed x) (closer_of x) y.text) _ (rw e refl)
        (rw (bracket-alone x (node z zs nil) b) (own_pair x z zs y.text b y.writes)) (λ ks. refl) (λ f. refl);
    holds = rw (e, eqb-true x.op Operator.left_parenthesis b, y.fits.states, y.writes.spells [], l, y.holds) refl;
    fits = record { states = refl; strong = λ o. le-leb (rank r k.op) _ (omega (arith, rank_below r k.op)) };
  }

  math-spelt : (k x : Token) (xs : Forest) → is_math_call k.op ≡ true → is_bracket x.op ≡ true → Inside (seat_under k 0) xs
      → Spelt k (node x xs nil)
  unfolding tokens trees signed is_text is_round is_pair is_list outline strength unclosed closed_by closer_of spanning is_bracket
  math-spelt k x nil h b (nothing u) = record {
    text = math_empty k (unclosed x) (closer_of x);
    writes = writes-empty k x (apart is_math_call k.op Operator.left_parenthesis h (unfold computed in refl)) b;
    holds = rw (h, eqb-true x.op Operator.left_parenthesis b) refl;
    fits = record { states = refl; strong = λ o. le-leb (rank r k.op) _ (omega arith) };
  }
  math-spelt k x (node z zs (node _ _ _)) h b x9 = elim x9 [ ]
  math-spelt k x (node z zs nil) h b (something l y) = record {
    text = math_call k (unclosed x) (closer_of x) y.text;
    writes = writes_one k x (node z zs nil) (section (unclosed x) (closer_of x) y.text) _
        (apart is_math_call k.op Operator.left_parenthesis h (unfold computed in refl))
        (rw (bracket-alone x (node z zs nil) b) (own_pair x z zs y.text b y.writes)) (λ ks. refl) (λ f. refl);
    holds = rw (h, eqb-true x.op Operator.left_parenthesis b, y.fits.states, y.holds) refl;
    fits = record { states = refl; strong = λ o. le-leb (rank r k.op) _ (omega arith) };
  }

  one : (q : Seat) (n : ℕ) (k x : Token) (xs : Forest) → eqb k.op Operator.semicolon ≡ false
      → expression_form q k (node x xs nil) ≡ true → PlainExpression (seat_under k 0) n x xs
      → Node (seat_under k 0) x xs
      → Node q k (node x xs nil)
  unfolding expression_form stands_alone is_bracket is_prefix is_one_of any uses is_call
  one q n k x xs s h e z = split (is_bracket k.op) (is_prefix k.op) (is_call k.op) refl refl refl
    where
      -- The child's writing has no token that only a script has.
      without : (m : ℕ) → is_stated m ≡ true → (ks : List Token) → uses (written x xs ks) m ≡ uses ks m
      without m i = written-unstated m i (seat_under k 0) n x xs e (other-seat k 0 s)

      operand : is_math_call k.op ≡ false → Part Operand (stands_alone x xs) x xs
      operand m = operand-part (stands_alone x xs) z (argument-seat k 0 m) (λ t. t) (λ t d. t)

      split : (b d g : Bool) → is_bracket k.op ≡ b → is_prefix k.op ≡ d → is_call k.op ≡ g → Node q k (node x xs nil)
      split true d g b i j =
          let o = eqb-true k.op Operator.left_parenthesis b in
          bracket b (without Operator.semicolon refl []) (spelt z (argument-seat k 0 (rw o (unfold computed in refl))))
      split false true g b i j =
          other b (apart is_prefix k.op Operator.conditional_else i refl)
          (prefix-spelt k x xs i (operand (unmath is_prefix (unfold computed in refl) k.op i)))
      split false false true b i j =
          let d = call-bracket q k x xs h j in
          other b (apart is_call k.op Operator.conditional_else j (unfold computed in refl))
          (either (is_math_call k.op) (λ m. math-spelt k x xs m d (inside d z))
          (λ m. query-spelt k x xs (eqb-true k.op Operator.query_function (or-only-first _ (is_math_call k.op) m j)) d (inside d z)))
      split false false false b i j =
          let f = or-neither (eqb k.op Operator.negate) (eqb k.op Operator.logical_not) i in
          let g : (eqb k.op Operator.return && is_under_semicolon q) ≡ true = (rw (b, f.0, f.1, j) at h) in
          let o = eqb-true k.op Operator.return ((and-eq-true_iff (eqb k.op Operator.return) (is_under_semicolon q)).0 g).0 in
          other b (rw o refl) (return-spelt k x xs o (operand (rw o (unfold computed in refl)))
          (operand-unstated Operator.return refl (stands_alone x xs) x xs (without Operator.return refl) []))

  -- ---- all of them

  spelled : (q : Seat) (n : ℕ) (k : Token) (cs : Forest) → PlainExpression q n k cs → Spelled q k cs
  unfolding expression_form
  spelled q n k nil e =
      plainly (either (is_plain_leaf k.op) (λ h. leaf h)
      (λ h. let b = (and-eq-true_iff (is_bracket k.op) (is_under_math_call q)).0 (rw h at e.form) in hollow b.0 b.1))
  spelled q n k (node x xs nil) e =
      let a = inner k 0 n x xs nil e.other e.below in
      plainly (one q (suc n) k x xs e.other e.form a.0 (left-node k x xs (spelled (seat_under k 0) (suc n) x xs a.0)))
  spelled q n k (node x xs (node y ys nil)) e =
      let a = inner k 0 n x xs (node y ys nil) e.other e.below in
      let b = inner k 1 (suc n + size xs) y ys nil e.other a.1 in
      two q k x xs y ys e.form (left-node k x xs (spelled (seat_under k 0) (suc n) x xs a.0))
      (spelled (seat_under k 1) (suc (suc n + size xs)) y ys b.0)
  spelled q n k (node x xs (node y ys (node z zs more))) e = absurd (false≢true e.form)

  -- THE TEXT of an expression at the root, or of what a statement holds.
  pub text_of : (q : Seat) (n : ℕ) (k : Token) (cs : Forest) → is_right_of_question q ≡ false → is_under_math_call q ≡ false
      → PlainExpression q n k cs
      → Spelt k cs
  text_of q n k cs s m e = spelt (node_of (spelled q n k cs e) (λ h. true≢false (sym h ∙ s))) m
