-- WHAT THE RULES SAY OF A TEXT, as facts: `is_text` taken apart, once, for the proofs.
use Prim.Native.Nat.{ℕ, suc, ◌<◌, ◌≤◌}
use mathlib.Core.{Path.{◌≡◌, refl, ap, ◌∙◌}, Bool.{Bool, true, false, ◌&&◌, ◌||◌, not, false≢true, and-eq-true_iff}}
use mathlib.Core.{List.{List, [], ◌∷◌}, Logic.{◌⊎◌, inl, inr}}
use native.Mathlib.Omega.{arith}
use lib.Dec.{eqb, leb}
use borrow.Author.Tests.{not-true, eqb-true, leb-true}
use Rattle.molang.specs.Operator
use Rattle.molang.specs.{Operator.{is_math_call, is_query_or_loop, has_members, before_minus}, Forest.{Token}, Free.{is_prefix, is_return}}
use Rattle.molang.specs.{Statements.{is_entered}, Order.{Rules}}
use Rattle.molang.specs.Grammar.{Text, operand, member, section, query, math_call, math_empty, index, arrow, prefix, returned, between}
use Rattle.molang.specs.Grammar.{minus, minuses, choice, chosen, script, line, lines, final, tokens, rank, strength, fits, is_infix}
use Rattle.molang.specs.Grammar.{outline, is_statement, is_list, is_line, are_lines, are_rest, ends_operand, begins_with, lacks, is_operand}
use Rattle.molang.specs.Grammar.{all_are, is_pair, is_round, is_text}
use Rattle.molang.proofs.{Booleans.{either}, Grammar.Shape.{Accessors, Curly, Round, Square}, Grammar.Used.{Each}}
use Rattle.molang.proofs.{Grammar.Levels.{ruled}, Grammar.Numbers.{height, rank-negate, rank-not, Infix, an-infix}}

-- ---- tests that hold together

two : (a b : Bool) → (a && b) ≡ true → (a ≡ true) × (b ≡ true)
two a b = (and-eq-true_iff a b).0

three : (a b c : Bool) → (a && b && c) ≡ true → (a ≡ true) × (b ≡ true) × (c ≡ true)
three true b c h = let p = two b c h in (refl, p.0, p.1)
three false b c h = absurd (false≢true h)

four : (a b c d : Bool) → (a && b && c && d) ≡ true → (a ≡ true) × (b ≡ true) × (c ≡ true) × (d ≡ true)
four true b c d h = let p = three b c d h in (refl, p.0, p.1, p.2)
four false b c d h = absurd (false≢true h)

five : (a b c d e : Bool) → (a && b && c && d && e) ≡ true → (a ≡ true) × (b ≡ true) × (c ≡ true) × (d ≡ true) × (e ≡ true)
five true b c d e h = let p = four b c d e h in (refl, p.0, p.1, p.2, p.3)
five false b c d e h = absurd (false≢true h)

six : (a b c d e f : Bool) → (a && b && c && d && e && f) ≡ true
    → (a ≡ true) × (b ≡ true) × (c ≡ true) × (d ≡ true) × (e ≡ true) × (f ≡ true)
six true b c d e f h = let p = five b c d e f h in (refl, p.0, p.1, p.2, p.3, p.4)
six false b c d e f h = absurd (false≢true h)

-- ---- tokens

pair : (m n : ℕ) (o c : Token) → is_pair m n o c ≡ true → (o.op ≡ m) × (c.op ≡ n)
unfolding is_pair
pair m n o c h = let p = two (eqb o.op m) (eqb c.op n) h in (eqb-true o.op m p.0, eqb-true c.op n p.1)

round : (o c : Token) → is_round o c ≡ true → Round o c
unfolding is_round
round o c h = pair Operator.left_parenthesis Operator.right_parenthesis o c h

-- All tokens of a list have the operator.
abbrev pub All : ℕ → List Token → Type 0
All n ks = Each (λ k. k.op ≡ n) ks

all : (n : ℕ) (ks : List Token) → all_are n ks ≡ true → All n ks
unfolding all_are
all n [] h = tt
all n (k ∷ ks) h = let p = two (eqb k.op n) (all_are n ks) h in (eqb-true k.op n p.0, all n ks p.1)

accessors : (ks : List Token) → All Operator.member_accessor ks → Accessors ks
accessors [] h = tt
accessors (k ∷ ks) h = (h.0, accessors ks h.1)

binary-after : (x : Text) → ends_operand x ≡ true → before_minus (outline x).last ≡ Operator.operand
unfolding ends_operand
binary-after x h = by (before_minus (outline x).last) refl
  where
    by : (b : Operator.BeforeMinus) → before_minus (outline x).last ≡ b → before_minus (outline x).last ≡ Operator.operand
    by Operator.operand e = e
    by Operator.operator e = absurd (false≢true (rw (e, ends_operand) at h))
    by Operator.minus e = absurd (false≢true (rw (e, ends_operand) at h))
    by Operator.unknown e = absurd (false≢true (rw (e, ends_operand) at h))

module _ (c a p : Bool) where
  abbrev pub r : Rules
  r = ruled c a p

  -- A not, or a minus before what does not begin with one.
  abbrev pub Prefix : Token → Text → Type 0
  Prefix k x = (k.op ≡ Operator.logical_not) ⊎ ((k.op ≡ Operator.negate) × (begins_with Operator.negate (tokens x []) ≡ false))

  abbrev pub Beside : ℕ → Text → Text → Type 0
  Beside n x y = (rank r n ≤ strength r x) × (rank r n < strength r y)

  abbrev pub Minus : Text → Text → Type 0
  Minus x y =
      (before_minus (outline x).last ≡ Operator.operand) × (begins_with Operator.negate (tokens y []) ≡ false)
      × (rank r Operator.add ≤ strength r x) × (rank r Operator.add < strength r y)

  abbrev pub Kept : Text → Type 0
  Kept (operand k) = is_operand k.op ≡ true
  Kept (member b m ms) = (is_operand b.op ≡ true) × (has_members b.op ≡ true) × Accessors (m ∷ ms)
  Kept (section o e x) = (Curly o e ⊎ Round o e) × (is_list (outline x).sort ≡ true) × Kept x
  Kept (query k o e x) =
      (is_query_or_loop k.op ≡ true) × Round o e × (is_list (outline x).sort ≡ true)
      × ((is_entered k.op || lacks Operator.semicolon x) ≡ true) × Kept x
  Kept (math_call k o e x) = (is_math_call k.op ≡ true) × Round o e × (is_list (outline x).sort ≡ true) × Kept x
  Kept (math_empty k o e) = (is_math_call k.op ≡ true) × Round o e
  Kept (index k o e x) =
      (k.op ≡ Operator.array_variable) × Square o e × (is_list (outline x).sort ≡ true) × (lacks Operator.semicolon x ≡ true) × Kept x
  Kept (arrow k x y) = (k.op ≡ Operator.pointer) × Beside Operator.pointer x y × Kept x × Kept y
  Kept (prefix k x) = Prefix k x × (suc (height c a p) ≤ strength r x) × Kept x
  Kept (returned k x) = (k.op ≡ Operator.return) × (1 ≤ strength r x) × (lacks Operator.return x ≡ true) × Kept x
  Kept (between k x y) = Infix c a p k.op × Beside k.op x y × Kept x × Kept y
  Kept (minus k x y) = (k.op ≡ Operator.negate) × Minus x y × Kept x × Kept y
  Kept (minuses k l x y) = (k.op ≡ Operator.negate) × (l.op ≡ Operator.negate) × Minus x y × Kept x × Kept y
  Kept (choice q d t) =
      (r.pairs_right ≡ true) × (q.op ≡ Operator.conditional) × (rank r Operator.conditional < strength r d)
      × (rank r Operator.conditional ≤ strength r t) × Kept d × Kept t
  Kept (chosen q k d t e) =
      (r.pairs_right ≡ true) × (q.op ≡ Operator.conditional) × (k.op ≡ Operator.conditional_else)
      × (rank r Operator.conditional < strength r d) × (rank r Operator.conditional ≤ strength r t) × ((outline t).is_open ≡ false)
      × (rank r Operator.conditional ≤ strength r e) × Kept d × Kept t × Kept e
  Kept (script x) = (are_lines (outline x).sort ≡ true) × Kept x
  Kept (line e es x) = All Operator.semicolon (e ∷ es) × (is_statement (outline x).sort ≡ true) × Kept x
  Kept (lines x y) = (is_line (outline x).sort ≡ true) × (are_rest (outline y).sort ≡ true) × Kept x × Kept y
  Kept (final x) = (is_statement (outline x).sort ≡ true) × Kept x

  beside : (n : ℕ) (x y : Text) → fits r n x y ≡ true → Beside n x y
  unfolding fits
  beside n x y h =
      let q = two (leb (rank r n) (strength r x)) (leb (suc (rank r n)) (strength r y)) h in
      (leb-true (rank r n) (strength r x) q.0, leb-true (suc (rank r n)) (strength r y) q.1)

  a-prefix : (k : Token) (x : Text) → is_prefix k.op ≡ true
      → not (eqb k.op Operator.negate && begins_with Operator.negate (tokens x [])) ≡ true → leb (rank r k.op) (strength r x) ≡ true
      → Prefix k x × (suc (height c a p) ≤ strength r x)
  unfolding is_prefix
  a-prefix k x h n l = either (eqb k.op Operator.negate)
      (λ t. let e = eqb-true k.op Operator.negate t in
      let b : begins_with Operator.negate (tokens x []) ≡ false = not-true _ (rw t at n) in
      (inr (e, b), as_high (ap (rank r) e ∙ rank-negate c a p)))
      (λ f. let e = eqb-true k.op Operator.logical_not (rw f at h) in (inl e, as_high (ap (rank r) e ∙ rank-not c a p)))
    where
      as_high : rank r k.op ≡ suc (height c a p) → suc (height c a p) ≤ strength r x
      as_high e = let m = leb-true (rank r k.op) (strength r x) l in omega (arith, m, e)

  a-minus : (x y : Text) → ends_operand x ≡ true → not (begins_with Operator.negate (tokens y [])) ≡ true → fits r Operator.add x y ≡ true
      → Minus x y
  a-minus x y e n f = let b = beside Operator.add x y f in (binary-after x e, not-true _ n, b.0, b.1)

  pub kept : (t : Text) → is_text r t ≡ true → Kept t
  unfolding is_text is_return
  kept (operand k) h = h
  kept (member b m ms) h =
      let q = three (is_operand b.op) (has_members b.op) (all_are Operator.member_accessor (m ∷ ms)) h in
      (q.0, q.1, accessors (m ∷ ms) (all Operator.member_accessor (m ∷ ms) q.2))
  kept (section o e x) h =
      let q = three (is_pair Operator.left_brace Operator.right_brace o e || is_round o e) (is_list (outline x).sort) (is_text r x) h in (
        either (is_pair Operator.left_brace Operator.right_brace o e) (λ t. inl (pair Operator.left_brace Operator.right_brace o e t))
            (λ f. inr (round o e (rw f at q.0))),
        q.1,
        kept x q.2,
      )
  kept (query k o e x) h =
      let q = five (is_query_or_loop k.op) (is_round o e) (is_list (outline x).sort) (is_entered k.op || lacks Operator.semicolon x)
      (is_text r x) h in
      (q.0, round o e q.1, q.2, q.3, kept x q.4)
  kept (math_call k o e x) h =
      let q = four (is_math_call k.op) (is_round o e) (is_list (outline x).sort) (is_text r x) h in
      (q.0, round o e q.1, q.2, kept x q.3)
  kept (math_empty k o e) h = let q = two (is_math_call k.op) (is_round o e) h in (q.0, round o e q.1)
  kept (index k o e x) h =
      let q = five (eqb k.op Operator.array_variable) (is_pair Operator.left_bracket Operator.right_bracket o e) (is_list (outline x).sort)
      (lacks Operator.semicolon x) (is_text r x) h in (
        eqb-true k.op Operator.array_variable q.0,
        pair Operator.left_bracket Operator.right_bracket o e q.1,
        q.2,
        q.3,
        kept x
            q.4,
      )
  kept (arrow k x y) h =
      let q = four (eqb k.op Operator.pointer) (fits r Operator.pointer x y) (is_text r x) (is_text r y) h in
      (eqb-true k.op Operator.pointer q.0, beside Operator.pointer x y q.1, kept x q.2, kept y q.3)
  kept (prefix k x) h =
      let q = four (is_prefix k.op) (leb (rank r k.op) (strength r x))
      (not (eqb k.op Operator.negate && begins_with Operator.negate (tokens x []))) (is_text r x) h in
      let b = a-prefix k x q.0 q.2 q.1 in (b.0, b.1, kept x q.3)
  kept (returned k x) h =
      let q = four (is_return k.op) (leb 1 (strength r x)) (lacks Operator.return x) (is_text r x) h in
      (eqb-true k.op Operator.return q.0, leb-true 1 (strength r x) q.1, q.2, kept x q.3)
  kept (between k x y) h =
      let q = four (is_infix r k.op) (fits r k.op x y) (is_text r x) (is_text r y) h in
      (an-infix c a p k.op q.0, beside k.op x y q.1, kept x q.2, kept y q.3)
  kept (minus k x y) h =
      let q = six (eqb k.op Operator.negate) (ends_operand x) (not (begins_with Operator.negate (tokens y []))) (fits r Operator.add x y)
      (is_text r x) (is_text r y) h in
      (eqb-true k.op Operator.negate q.0, a-minus x y q.1 q.2 q.3, kept x q.4, kept y q.5)
  kept (minuses k l x y) h =
      let q = six (all_are Operator.negate (k ∷ l ∷ [])) (ends_operand x) (not (begins_with Operator.negate (tokens y [])))
      (fits r Operator.add x y)
      (is_text r x) (is_text r y) h in
      let e = all Operator.negate (k ∷ l ∷ []) q.0 in (e.0, e.1.0, a-minus x y q.1 q.2 q.3, kept x q.4, kept y q.5)
  kept (choice q d t) h =
      let b = six r.pairs_right (eqb q.op Operator.conditional) (leb (suc (rank r Operator.conditional)) (strength r d))
      (leb (rank r Operator.conditional) (strength r t)) (is_text r d) (is_text r t) h in
      (b.0, eqb-true q.op Operator.conditional b.1, leb-true _ _ b.2, leb-true _ _ b.3, kept d b.4, kept t b.5)
  kept (chosen q k d t e) h =
      let b = six
      (r.pairs_right && eqb q.op Operator.conditional && eqb k.op Operator.conditional_else
      && leb (suc (rank r Operator.conditional)) (strength r d) && leb (rank r Operator.conditional) (strength r t))
      (not (outline t).is_open) (leb (rank r Operator.conditional) (strength r e)) (is_text r d) (is_text r t) (is_text r e) h in
      let s = five r.pairs_right (eqb q.op Operator.conditional) (eqb k.op Operator.conditional_else)
      (leb (suc (rank r Operator.conditional)) (strength r d)) (leb (rank r Operator.conditional) (strength r t)) b.0 in (
        s.0,
        eqb-true q.op Operator.conditional s.1,
        eqb-true k.op Operator.conditional_else s.2,
        leb-true _ _ s.3,
        leb-true
            _ _ s.4,
        not-true _ b.1,
        leb-true _ _ b.2,
        kept d b.3,
        kept t b.4,
        kept e b.5,
      )
  kept (script x) h = let q = two (are_lines (outline x).sort) (is_text r x) h in (q.0, kept x q.1)
  kept (line e es x) h =
      let q = three (all_are Operator.semicolon (e ∷ es)) (is_statement (outline x).sort) (is_text r x) h in
      (all Operator.semicolon (e ∷ es) q.0, q.1, kept x q.2)
  kept (lines x y) h =
      let q = four (is_line (outline x).sort) (are_rest (outline y).sort) (is_text r x) (is_text r y) h in
      (q.0, q.1, kept x q.2, kept y q.3)
  kept (final x) h = let q = two (is_statement (outline x).sort) (is_text r x) h in (q.0, kept x q.1)
