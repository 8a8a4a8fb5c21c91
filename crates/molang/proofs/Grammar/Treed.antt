-- THE RULES GIVE THE RANKS that the levels ask for, and what the return pass asks; so a text that keeps them is canonical, and the trees
-- that
-- the passes leave are the text's.
use Prim.Native.Nat.{ℕ, suc, ◌<◌, ◌≤◌}
use mathlib.Core.{Path.{◌≡◌, refl, ap, sym, ◌∙◌}, Bool.{Bool, true, false, true≢false, false≢true, and-eq-true_iff}}
use mathlib.Core.{List.{List, [], ◌∷◌}, Option.{Option, none, some}, Logic.{inl, inr}}
use native.Mathlib.Omega.{arith}
use lib.Dec.{eqb, leb}
use borrow.Author.Tests.{eq-eqb, le-leb}
use Rattle.molang.specs.Operator
use Rattle.molang.specs.{Forest.{Token, Forest, nil, node, bare, renamed, closed_by}, Order.{Rules}}
use Rattle.molang.specs.Grammar.{Text, operand, member, section, query, math_call, math_empty, index, arrow, prefix, returned, between}
use Rattle.molang.specs.Grammar.{minus, minuses, choice, chosen, script, line, lines, final, strength, outline, Sort, a_statement}
use Rattle.molang.specs.Grammar.{a_script, a_line, some_lines, a_last, well_formed, is_text, top_of, inside_of, signed, listed, trees}
use Rattle.molang.specs.Grammar as Grammar
use Rattle.molang.proofs.{Computed.{computed}, Grammar.Shape.{Shape, Accessors, first_of, semicolon_of, is_list}}
use Rattle.molang.proofs.{Grammar.Ranked.{Exp, is_tight, is_closed, Ranked, amid}, Grammar.Ranks.{rank, pairing}}
use Rattle.molang.proofs.Grammar.Returned.{is_return_leaf, label_of, returning, Returnless, Once, Returning}
use Rattle.molang.proofs.Grammar.Views.{shape, ranked, over, negated, blanks}
use Rattle.molang.proofs.{Grammar.Signs.{signed-fits, negated-tight, negated-ranked}, Grammar.Canonical.{Canonical}}
use Rattle.molang.proofs.{Grammar.Gating.{in-ranked}, Grammar.Complete.{returnless}, Grammar.Levels.{ruled}}
use Rattle.molang.proofs.{Grammar.Numbers.{infixes, none-unranked, Infix, plus-infix, a-question}, Grammar.Kept.{Prefix, Kept, kept}}
use Rattle.molang.proofs.Grammar.Given.{infix-silent, Labels, round-label, section-label, math-label, operand-label, query-label}
use Rattle.molang.proofs.Grammar.Given.{Sorted, lacking}
use Rattle.molang.proofs.Grammar.Keeping.{sorted, shaped, list_of, stated, arrows, chained, over-tight, over-ranked, tight, signs}
use Rattle.molang.proofs.Grammar.Shape as Shapes
use Rattle.molang.proofs.Grammar.Ranked as Ranks
use Rattle.molang.proofs.Grammar.Returned as Returns
use Rattle.molang.proofs.Grammar.Canonical as Canonicals

-- What a binary minus makes of its right operand asks the same of `return`.
negated-returning : (rank : ℕ → ℕ) (p m : ℕ) (k : Token) (e : Exp) → Ranked rank p e → is_tight rank m e ≡ true → Returning rank e
    → Returning rank (negated k e)
unfolding negated bare is_tight
negated-returning rank p m k (Ranks.leaf l) g t h = (refl, h)
negated-returning rank p m k (Ranks.over l x) g t h = (refl, h)
negated-returning rank p m k (Ranks.beside x y) g t h = absurd (false≢true t)
negated-returning rank p m k (Ranks.between l x y) g t h = (h.0, negated-returning rank p (rank l.op) k x g.4 g.2 h.1, h.2)
negated-returning rank p m k (Ranks.choice q c t) g u h = (h.0, negated-returning rank p (suc p) k c g.4 g.2 h.1, h.2)
negated-returning rank p m k (Ranks.chosen q l c t e) g u h =
    (h.0, h.1, negated-returning rank p (suc p) k c g.8 g.4 h.2, h.3, h.4)

-- A `return`, or two lists side by side.
once-on : (b : Bool) (rank : ℕ → ℕ) (y : Exp) (A B : Type 0) → b ≡ true → (is_tight rank 1 y ≡ true) × Returnless y → Once b rank y A B
once-on true rank y A B e h = h
once-on false rank y A B e h = absurd (false≢true e)

once-beside : (b : Bool) (rank : ℕ → ℕ) (y : Exp) (A B : Type 0) → b ≡ false → A × B → Once b rank y A B
once-beside true rank y A B e h = absurd (true≢false e)
once-beside false rank y A B e h = h

not-return : (rank : ℕ → ℕ) (e : Exp) → Returning rank e → is_return_leaf e ≡ false
unfolding is_return_leaf
not-return rank (Ranks.leaf k) h = h
not-return rank (Ranks.over k x) h = refl
not-return rank (Ranks.beside x y) h = refl
not-return rank (Ranks.between k x y) h = refl
not-return rank (Ranks.choice q c t) h = refl
not-return rank (Ranks.chosen q k c t e) h = refl

over_closed : (rank : ℕ → ℕ) (p : ℕ) (e : Exp) (ms : List Token) → is_closed rank p e ≡ true → is_closed rank p (over e ms) ≡ true
unfolding over is_closed
over_closed rank p e [] h = h
over_closed rank p e (k ∷ ms) h = over_closed rank p (Ranks.over k e) ms refl

over-returning : (rank : ℕ → ℕ) (e : Exp) (ms : List Token) → Returning rank e → Accessors ms → Returning rank (over e ms)
unfolding over
over-returning rank e [] h g = h
over-returning rank e (k ∷ ms) h g =
    over-returning rank (Ranks.over k e) ms (ap (λ (n : ℕ). eqb n Operator.return) g.0, h) g.1

module _ (c a p : Bool) where
  abbrev r : Rules
  r = ruled c a p

  plus : Infix c a p Operator.add
  plus = plus-infix c a p

  -- The rank of a `?`, on both sides.
  question-rank : (q : Token) → p ≡ true → q.op ≡ Operator.conditional → Grammar.rank r q.op ≡ rank r q.op
  question-rank q e h =
      let b = a-question c a p e in ap (Grammar.rank r) h ∙ b.given ∙ sym b.question ∙ sym (ap (rank r) h)

  tight-by : (t : Text) → Kept c a p t → (m : ℕ) → 1 ≤ m → m ≤ strength r t → is_tight (rank r) m (ranked t) ≡ true
  unfolding strength ranked is_tight renamed
  tight-by (operand k) g m o l = refl
  tight-by (member b n ms) g m o l = over-tight c a p (rank r) m (Ranks.over n (Ranks.leaf b)) ms refl
  tight-by (section k e x) g m o l = refl
  tight-by (query k i e x) g m o l = refl
  tight-by (math_call k i e x) g m o l = refl
  tight-by (math_empty k i e) g m o l = refl
  tight-by (index k i e x) g m o l = refl
  tight-by (arrow k x y) g m o l = refl
  tight-by (prefix k x) g m o l = refl
  tight-by (returned k x) g m o l = absurd (omega (arith, o, l))
  tight-by (between k x y) g m o l = let e = g.0.same in le-leb m (rank r k.op) (omega (arith, e, l))
  tight-by (minus k x y) g m o l = let e = plus.same in le-leb m (rank r Operator.add) (omega (arith, e, l))
  tight-by (minuses k i x y) g m o l = let e = plus.same in le-leb m (rank r Operator.add) (omega (arith, e, l))
  tight-by (choice q d t) g m o l = let e = question-rank q g.0 g.1 in le-leb m (rank r q.op) (omega (arith, e, l))
  tight-by (chosen q k d t f) g m o l = let e = question-rank q g.0 g.1 in le-leb m (rank r q.op) (omega (arith, e, l))
  tight-by (script x) g m o l = absurd (omega (arith, o, l))
  tight-by (line e es x) g m o l = absurd (omega (arith, o, l))
  tight-by (lines x y) g m o l = absurd (omega (arith, o, l))
  tight-by (final x) g m o l = absurd (omega (arith, o, l))

  -- A text without an open `?` takes no `:`.
  closed-by : (t : Text) → Kept c a p t → (outline t).is_open ≡ false → 1 ≤ strength r t → pairing r ≤ strength r t
      → is_closed (rank r) (pairing r) (ranked t) ≡ true
  unfolding strength ranked is_closed renamed outline
  closed-by (operand k) g o n l = refl
  closed-by (member b m ms) g o n l = over_closed (rank r) (pairing r) (Ranks.over m (Ranks.leaf b)) ms refl
  closed-by (section k e x) g o n l = refl
  closed-by (query k i e x) g o n l = refl
  closed-by (math_call k i e x) g o n l = refl
  closed-by (math_empty k i e) g o n l = refl
  closed-by (index k i e x) g o n l = refl
  closed-by (arrow k x y) g o n l = refl
  closed-by (prefix k x) g o n l = refl
  closed-by (returned k x) g o n l = absurd (omega (arith, n))
  closed-by (between k x y) g o n l =
      let e = g.0.same in let u = g.0.unpaired in le-leb (suc (pairing r)) (rank r k.op) (omega (arith, e, l, u))
  closed-by (minus k x y) g o n l =
      let e = plus.same in let u = plus.unpaired in le-leb (suc (pairing r)) (rank r Operator.add) (omega (arith, e, l, u))
  closed-by (minuses k i x y) g o n l =
      let e = plus.same in let u = plus.unpaired in le-leb (suc (pairing r)) (rank r Operator.add) (omega (arith, e, l, u))
  closed-by (choice q d t) g o n l = absurd (true≢false o)
  closed-by (chosen q k d t e) g o n l =
      let b = a-question c a p g.0 in let z = b.given in let i = b.positive in let m = g.6 in
      closed-by e g.9 o (omega (arith, z, i, m)) (omega (arith, z, m))
  closed-by (script x) g o n l = absurd (omega (arith, n))
  closed-by (line e es x) g o n l = absurd (omega (arith, n))
  closed-by (lines x y) g o n l = absurd (omega (arith, n))
  closed-by (final x) g o n l = absurd (omega (arith, n))

  unlevelled : (k : Token) → Labels k → rank r k.op ≡ 0
  unlevelled k l = none-unranked c a p k.op l.unlevelled

  one-unlevelled : (k : Token) (m : ℕ) → k.op ≡ m → Operator.is_one_of infixes m ≡ false → rank r k.op ≡ 0
  one-unlevelled k m e h = ap (rank r) e ∙ none-unranked c a p m h

  prefix-unlevelled : (k : Token) (x : Text) → Prefix c a p k x → rank r k.op ≡ 0
  unfolding computed
  prefix-unlevelled k x (inl e) = one-unlevelled k Operator.logical_not e refl
  prefix-unlevelled k x (inr e) = one-unlevelled k Operator.negate e.0 refl

  no-negate : rank r Operator.negate ≡ 0
  no-negate = none-unranked c a p Operator.negate (unfold computed in refl)

  accessor-unlevelled : rank r Operator.member_accessor ≡ 0
  accessor-unlevelled = none-unranked c a p Operator.member_accessor (unfold computed in refl)

  abbrev Ordered : Exp → Type 0
  Ordered e = Ranked (rank r) (pairing r) e

  ordered : (t : Text) → Kept c a p t → Ordered (ranked t)
  unfolding ranked closed_by renamed bare computed
  ordered (operand k) g = unlevelled k (operand-label k g)
  ordered (member b m ms) g =
      over-ranked c a p (rank r) (pairing r) (Ranks.over m (Ranks.leaf b)) ms accessor-unlevelled
      (ap (rank r) g.2.0 ∙ accessor-unlevelled, unlevelled b (operand-label b g.0)) g.2.1
  ordered (section o e x) g = (unlevelled o (section-label o e g.0), ordered x g.2)
  ordered (query k o e x) g = (unlevelled k (query-label k g.0), (unlevelled o (round-label o e g.1), ordered x g.4))
  ordered (math_call k o e x) g = (unlevelled k (math-label k g.0), (unlevelled o (round-label o e g.1), ordered x g.3))
  ordered (math_empty k o e) g = (unlevelled k (math-label k g.0), unlevelled o (round-label o e g.1))
  ordered (index k o e x) g = (none-unranked c a p Operator.array refl, ordered x g.4)
  ordered (arrow k x y) g = (one-unlevelled k Operator.pointer g.0 refl, (ordered x g.2, ordered y g.3))
  ordered (prefix k x) g = (prefix-unlevelled k x g.0, ordered x g.2)
  ordered (returned k x) g = (one-unlevelled k Operator.return g.0 refl, ordered x g.3)
  ordered (between k x y) g =
      let e = g.0.same in let i = g.0.positive in let l = g.1.0 in let m = g.1.1 in (
        omega (arith, e, i),
        g.0.unpaired,
        tight-by x g.2 (rank r k.op) (omega (arith, e, i)) (omega (arith, e, l)),
        tight-by y g.3 (suc (rank r k.op)) (omega arith) (omega (arith, e, m)),
        ordered x g.2,
        ordered y g.3,
      )
  ordered (minus k x y) g =
      let e = plus.same in let i = plus.positive in let l = g.1.2 in let m = g.1.3 in (
        omega (arith, e, i),
        plus.unpaired,
        tight-by x g.2 (rank r Operator.add) (omega (arith, e, i)) (omega (arith, e, l)),
        negated-tight (rank r) (pairing r) no-negate (suc (rank r Operator.add)) k (ranked y)
            ∙ tight-by y g.3 (suc (rank r Operator.add)) (omega arith) (omega (arith, e, m)),
        ordered x g.2,
        negated-ranked (rank r) (pairing r) no-negate k (ranked y) (ordered y g.3),
      )
  ordered (minuses k j x y) g =
      let e = plus.same in let i = plus.positive in let l = g.2.2 in let m = g.2.3 in (
        omega (arith, e, i),
        plus.unpaired,
        tight-by x g.3 (rank r Operator.add) (omega (arith, e, i)) (omega (arith, e, l)),
        tight-by y g.4 (suc (rank r Operator.add)) (omega arith) (omega (arith, e, m)),
        ordered x g.3,
        ordered y g.4,
      )
  ordered (choice q d t) g =
      let b = a-question c a p g.0 in let z = b.given in let i = b.positive in let l = g.2 in let m = g.3 in (
        g.1,
        ap (rank r) g.1 ∙ b.question,
        tight-by d g.4 (suc (pairing r)) (omega arith) (omega (arith, z, l)),
        tight-by t g.5 (pairing r) (omega (arith, i)) (omega (arith, z, m)),
        ordered d g.4,
        ordered t g.5,
      )
  ordered (chosen q k d t e) g =
      let b = a-question c a p g.0 in let z = b.given in let i = b.positive in let l = g.3 in let m = g.4 in let n = g.6 in (
        g.1,
        ap (rank r) g.1 ∙ b.question,
        g.2,
        ap (rank r) g.2 ∙ b.colon,
        tight-by d g.7 (suc (pairing r)) (omega arith) (omega (arith, z, l)),
        tight-by t g.8 (pairing r) (omega (arith, i))
            (omega (arith, z, m)),
        closed-by t g.8 g.5 (omega (arith, z, i, m)) (omega (arith, z, m)),
        tight-by e g.9 (pairing r) (omega (arith, i))
            (omega (arith, z, n)),
        ordered d g.7,
        ordered t g.8,
        ordered e g.9,
      )
  ordered (script x) g = (none-unranked c a p Operator.semicolon refl, ordered x g.1)
  ordered (line e es x) g = (none-unranked c a p Operator.semicolon refl, ordered x g.2)
  ordered (lines x y) g = (ordered x g.2, ordered y g.3)
  ordered (final x) g = (none-unranked c a p Operator.semicolon refl, ordered x g.1)

  -- ---- `return`

  prefix-silent : (k : Token) (x : Text) → Prefix c a p k x → eqb k.op Operator.return ≡ false
  prefix-silent k x (inl e) = ap (λ (n : ℕ). eqb n Operator.return) e
  prefix-silent k x (inr e) = ap (λ (n : ℕ). eqb n Operator.return) e.0

  one-silent : (k : Token) (m : ℕ) → k.op ≡ m → eqb m Operator.return ≡ false → eqb k.op Operator.return ≡ false
  one-silent k m e h = ap (λ (n : ℕ). eqb n Operator.return) e ∙ h

  returns : (t : Text) → Kept c a p t → Returning (rank r) (ranked t)
  unfolding ranked closed_by renamed bare is_return_leaf
  returns (operand k) g = (operand-label k g).silent
  returns (member b m ms) g =
      over-returning (rank r) (Ranks.over m (Ranks.leaf b)) ms
      (one-silent m Operator.member_accessor g.2.0 refl, (operand-label b g.0).silent) g.2.1
  returns (section o e x) g = ((section-label o e g.0).silent, returns x g.2)
  returns (query k o e x) g = ((query-label k g.0).silent, ((round-label o e g.1).silent, returns x g.4))
  returns (math_call k o e x) g = ((math-label k g.0).silent, ((round-label o e g.1).silent, returns x g.3))
  returns (math_empty k o e) g = ((math-label k g.0).silent, (round-label o e g.1).silent)
  returns (index k o e x) g = (refl, returns x g.4)
  returns (arrow k x y) g = (
    one-silent k Operator.pointer g.0 refl,
    once-beside (is_return_leaf (ranked x)) (rank r) (ranked y) (Returning (rank r) (ranked x)) (Returning (rank r) (ranked y))
        (not-return (rank r) (ranked x) (returns x g.2)) (returns x g.2, returns y g.3),
  )
  returns (prefix k x) g = (prefix-silent k x g.0, returns x g.2)
  returns (returned k x) g =
      once-on (eqb k.op Operator.return) (rank r) (ranked x) (eqb k.op Operator.return ≡ false) (Returning (rank r) (ranked x))
      (eq-eqb k.op Operator.return g.0) (
        tight-by x g.3 1 (omega arith) g.1,
        returnless (rank r) (ranked x) (returns x g.3)
            (in-ranked (λ n. eqb n Operator.return ≡ false) (λ h. refl) x [] (arrows c a p x g.3)
            (lacking Operator.return x refl g.2)).0,
      )
  returns (between k x y) g = (infix-silent k.op g.0.listed, returns x g.2, returns y g.3)
  returns (minus k x y) g =
      let e = plus.same in let m = g.1.3 in (
        refl,
        returns x g.2,
        negated-returning (rank r) (pairing r) (suc (rank r Operator.add)) k (ranked y) (ordered y g.3)
            (tight-by y g.3 (suc (rank r Operator.add)) (omega arith) (omega (arith, e, m))) (returns y g.3),
      )
  returns (minuses k l x y) g = (refl, returns x g.3, returns y g.4)
  returns (choice q d t) g = (one-silent q Operator.conditional g.1 refl, returns d g.4, returns t g.5)
  returns (chosen q k d t e) g = (
    one-silent q Operator.conditional g.1 refl,
    one-silent k Operator.conditional_else g.2 refl,
    returns d g.7,
    returns t
        g.8,
    returns e g.9,
  )
  returns (script x) g = (refl, returns x g.1)
  returns (line e es x) g = (refl, returns x g.2)
  returns (lines x y) g =
      once-beside (is_return_leaf (ranked x)) (rank r) (ranked y) (Returning (rank r) (ranked x)) (Returning (rank r) (ranked y))
      (not-return (rank r) (ranked x) (returns x g.2)) (returns x g.2, returns y g.3)
  returns (final x) g = (refl, returns x g.1)

  -- ---- canonical

  pub is-canonical : (t : Text) → well_formed r t ≡ true → Canonical r t
  unfolding well_formed
  is-canonical t h =
      let b = (and-eq-true_iff (Grammar.is_list (outline t).sort) (is_text r t)).0 h in
      let g = kept c a p t b.1 in
      record {
        shaped = shaped c a p t g;
        stated = stated c a p t g;
        list = list_of c a p t b.0 g;
        arrows = arrows c a p t g;
        tight = tight c a p t g;
        signed = signed-fits t none (chained c a p t g) (signs c a p t [] none g (λ s b. tt));
        ordered = ordered t g;
        returning = returns t g;
      }

-- ---- trees

blanks-first : (s : Shape) (es : List Token) → first_of (blanks s es) ≡ first_of s
unfolding blanks first_of
blanks-first s [] = refl
blanks-first s (e ∷ es) = blanks-first (Shapes.beside s (Shapes.blank e)) es

-- A statement has the span of its first token.
first-same : (t : Text) → bare Operator.semicolon (first_of (shape t)) ≡ bare Operator.semicolon (outline t).first
unfolding shape outline first_of bare closed_by top_of
first-same (operand k) = refl
first-same (member b m ms) = refl
first-same (section o e x) = refl
first-same (query k o e x) = refl
first-same (math_call k o e x) = refl
first-same (math_empty k o e) = refl
first-same (index k o e x) = refl
first-same (arrow k x y) = first-same x
first-same (prefix k x) = refl
first-same (returned k x) = refl
first-same (between k x y) = first-same x
first-same (minus k x y) = first-same x
first-same (minuses k l x y) = first-same x
first-same (choice q d t) = first-same d
first-same (chosen q k d t e) = first-same d
first-same (script x) = first-same x
first-same (line e es x) = ap (bare Operator.semicolon) (blanks-first (Shapes.statement e (shape x)) es) ∙ first-same x
first-same (lines x y) = first-same x
first-same (final x) = first-same x

-- The first operand under the minus of a subtraction, if there is one.
unfoldable under : Option Token → Exp → Exp
under none e = e
under (some m) e = negated m e

amid-on : (a b : Bool) (q k : Token) (A X B Y D Z : Forest → Forest) → a ≡ true → b ≡ true → ((f : Forest) → A f ≡ X f)
    → ((f : Forest) → B f ≡ Y f) → ((f : Forest) → D f ≡ Z f) → (f : Forest)
    → amid a q A (amid b k B D) f ≡ node q (X (node k (Y (Z nil)) nil)) f
unfolding amid
amid-on true true q k A X B Y D Z e d h g i f =
    ap (λ (cs : Forest). node q cs f) (h (node k (B (D nil)) nil) ∙ ap (λ (cs : Forest). X (node k cs nil)) (g (D nil) ∙ ap Y (i nil)))
amid-on true false q k A X B Y D Z e d h g i f = absurd (false≢true d)
amid-on false b q k A X B Y D Z e d h g i f = absurd (false≢true e)

module _ (σ : ℕ → Bool) where
  abbrev R : Exp → Forest → Forest
  R e f = Returns.returned σ e f

  leaf-under : (s : Option Token) (k : Token) (f : Forest) → R (under s (Ranks.leaf k)) f ≡ signed s k nil f
  unfolding under negated Returns.returned signed
  leaf-under none k f = refl
  leaf-under (some m) k f = refl

  over-under : (s : Option Token) (k : Token) (x : Exp) (cs : Forest) → R x nil ≡ cs → (f : Forest)
      → R (under s (Ranks.over k x)) f ≡ signed s k cs f
  unfolding under negated Returns.returned signed
  over-under none k x cs e f = ap (λ (cs : Forest). node k cs f) e
  over-under (some m) k x cs e f = ap (λ (cs : Forest). node (bare Operator.negate m) (node k cs nil) f) e

  chain-under : (s : Option Token) (k : Token) (x : Exp) (cs : Forest) (ms : List Token) → R x nil ≡ cs → (f : Forest)
      → R (under s (over (Ranks.over k x) ms)) f ≡ signed s (top_of k ms) (inside_of k cs ms) f
  unfolding over top_of inside_of
  chain-under s k x cs [] e f = over-under s k x cs e f
  chain-under s k x cs (m ∷ ms) e f =
      chain-under s m (Ranks.over k x) (node k cs nil) ms (unfold Returns.returned in ap (λ (cs : Forest). node k cs nil) e) f

  -- A node over two lists.
  pair_under : (s : Option Token) (k : Token) (x y : Exp) (X Y : Forest → Forest) → σ k.op ≡ true
      → ((f : Forest) → R (under s x) f ≡ X f)
      → ((f : Forest) → R y f ≡ Y f) → (f : Forest) → R (under s (Ranks.between k x y)) f ≡ node k (X (Y nil)) f
  unfolding under negated Returns.returned amid
  pair_under none k x y X Y e h g f = rw (e, amid) (ap (λ (cs : Forest). node k cs f) (h (R y nil) ∙ ap X (g nil)))
  pair_under (some m) k x y X Y e h g f = rw (e, amid) (ap (λ (cs : Forest). node k cs f) (h (R y nil) ∙ ap X (g nil)))

  choice-under : (s : Option Token) (k : Token) (x y : Exp) (X Y : Forest → Forest) → σ k.op ≡ true
      → ((f : Forest) → R (under s x) f ≡ X f)
      → ((f : Forest) → R y f ≡ Y f) → (f : Forest) → R (under s (Ranks.choice k x y)) f ≡ node k (X (Y nil)) f
  unfolding under negated Returns.returned amid
  choice-under none k x y X Y e h g f = rw (e, amid) (ap (λ (cs : Forest). node k cs f) (h (R y nil) ∙ ap X (g nil)))
  choice-under (some m) k x y X Y e h g f = rw (e, amid) (ap (λ (cs : Forest). node k cs f) (h (R y nil) ∙ ap X (g nil)))

  chosen-under : (s : Option Token) (q k : Token) (x y z : Exp) (X Y Z : Forest → Forest) → σ q.op ≡ true → σ k.op ≡ true
      → ((f : Forest) → R (under s x) f ≡ X f) → ((f : Forest) → R y f ≡ Y f) → ((f : Forest) → R z f ≡ Z f)
      → (f : Forest) → R (under s (Ranks.chosen q k x y z)) f ≡ node q (X (node k (Y (Z nil)) nil)) f
  unfolding under negated Returns.returned
  chosen-under none q k x y z X Y Z e d h g i f = amid-on (σ q.op) (σ k.op) q k (R x) X (R y) Y (R z) Z e d h g i f
  chosen-under (some m) q k x y z X Y Z e d h g i f = amid-on (σ q.op) (σ k.op) q k (R (negated m x)) X (R y) Y (R z) Z e d h g i f

script-under : (s : Sort) (x : Shape) (cs f : Forest) → Grammar.are_lines s ≡ true → Sorted s x
    → node (bare Operator.semicolon (semicolon_of x)) cs f ≡ listed s cs f
unfolding Grammar.are_lines listed
script-under a_statement x cs f h m = absurd (false≢true h)
script-under a_script x cs f h m = absurd (false≢true h)
script-under (a_line e) x cs f h m = ap (λ (k : Token). node (bare Operator.semicolon k) cs f) m.first
script-under (some_lines e) x cs f h m = ap (λ (k : Token). node (bare Operator.semicolon k) cs f) m.first
script-under a_last x cs f h m = absurd (false≢true h)

module _ (c a p : Bool) where
  abbrev q : Rules
  q = ruled c a p

  abbrev σ : ℕ → Bool
  σ n = leb 1 (rank q n)

  -- A minus stands before what binds.
  abbrev Binds : Option Token → Text → Type 0
  Binds none t = Unit {0}
  Binds (some k) t = 1 ≤ strength q t

  folds : (n : ℕ) → 1 ≤ rank q n → σ n ≡ true
  folds n l = le-leb 1 (rank q n) l

  infix-folds : (n : ℕ) → Infix c a p n → σ n ≡ true
  infix-folds n i = let e = i.same in let l = i.positive in folds n (omega (arith, e, l))

  question-folds : (n : ℕ) (k : Token) → k.op ≡ n → 0 < pairing q → rank q n ≡ pairing q → σ k.op ≡ true
  question-folds n k h l e = let z = ap (rank q) h in folds k.op (omega (arith, z, e, l))

  -- What binds at all, before the operator of a positive rank, binds under a minus.
  on-left : (s : Option Token) (x : Text) → 1 ≤ strength q x → Binds s x
  on-left none x l = tt
  on-left (some k) x l = l

  beside-trees : (s : Option Token) (b : Bool) (x y : Exp) (k : Token) (X Y : Forest → Forest) (f : Forest) → b ≡ false
      → X (Y f) ≡ Returns.returning b k X Y f
  unfolding Returns.returning
  beside-trees s true x y k X Y f e = absurd (true≢false e)
  beside-trees s false x y k X Y f e = refl

  returned-tree : (b : Bool) (k : Token) (X Y : Forest → Forest) (f : Forest) → b ≡ true → Returns.returning b k X Y f ≡ node k (Y nil) f
  unfolding Returns.returning
  returned-tree true k X Y f e = refl
  returned-tree false k X Y f e = absurd (false≢true e)

  weak : (t : Text) → strength q t ≡ 0 → 1 ≤ strength q t → ⊥
  weak t e l = omega (arith, e, l)

  same-trees : (s : Option Token) (t : Text) → Kept c a p t → Binds s t → (f : Forest)
      → Returns.returned σ (under s (ranked t)) f ≡ trees s t f
  unfolding ranked trees renamed under Returns.returned is_return_leaf label_of strength
  same-trees s (operand k) g b f = leaf-under σ s k f
  same-trees s (member n m ms) g b f = chain-under σ s m (Ranks.leaf n) (node n nil nil) ms refl f
  same-trees s (section o e x) g b f = over-under σ s (closed_by e o) (ranked x) (trees none x nil) (same-trees none x g.2 tt nil) f
  same-trees s (query k o e x) g b f =
      over-under σ s k (Ranks.over (closed_by e o) (ranked x)) (node (closed_by e o) (trees none x nil) nil)
      (ap (λ (cs : Forest). node (closed_by e o) cs nil) (same-trees none x g.4 tt nil)) f
  same-trees s (math_call k o e x) g b f =
      over-under σ s k (Ranks.over (closed_by e o) (ranked x)) (node (closed_by e o) (trees none x nil) nil)
      (ap (λ (cs : Forest). node (closed_by e o) cs nil) (same-trees none x g.3 tt nil)) f
  same-trees s (math_empty k o e) g b f = over-under σ s k (Ranks.leaf (closed_by e o)) (node (closed_by e o) nil nil) refl f
  same-trees s (index k o e x) g b f =
      over-under σ s (renamed Operator.array k) (ranked x) (trees none x nil) (same-trees none x g.4 tt nil) f
  same-trees s (arrow k x y) g b f =
      over-under σ s k (Ranks.beside (ranked x) (ranked y)) (trees none x (trees none y nil))
      (sym (beside-trees s (is_return_leaf (ranked x)) (ranked x) (ranked y) (label_of (ranked x)) (Returns.returned σ (ranked x))
      (Returns.returned σ (ranked y)) nil
      (not-return (rank q) (ranked x) (returns c a p x g.2)))
      ∙ same-trees none x g.2 tt (Returns.returned σ (ranked y) nil) ∙ ap (trees none x) (same-trees none y g.3 tt nil)) f
  same-trees s (prefix k x) g b f = over-under σ s k (ranked x) (trees none x nil) (same-trees none x g.2 tt nil) f
  same-trees none (returned k x) g b f =
      returned-tree (eqb k.op Operator.return) k (Returns.returned σ (Ranks.leaf k)) (Returns.returned σ (ranked x)) f
      (eq-eqb k.op Operator.return g.0)
      ∙ ap (λ (cs : Forest). node k cs f) (same-trees none x g.3 tt nil)
  same-trees (some m) (returned k x) g b f = absurd (weak (returned k x) refl b)
  same-trees s (between k x y) g b f =
      let i = g.0.positive in let l = g.1.0 in
      pair_under σ s k (ranked x) (ranked y) (trees s x) (trees none y) (infix-folds k.op g.0)
      (same-trees s x g.2 (on-left s x (omega (arith, i, l))))
      (same-trees none y g.3 tt) f
  same-trees s (minus k x y) g b f =
      let i = (plus c a p).positive in let l = g.1.2 in let m = g.1.3 in
      pair_under σ s (renamed Operator.add k) (ranked x) (negated k (ranked y)) (trees s x) (trees (some k) y)
      (infix-folds Operator.add (plus c a p))
      (same-trees s x g.2 (on-left s x (omega (arith, i, l)))) (same-trees (some k) y g.3 (omega (arith, m))) f
  same-trees s (minuses k j x y) g b f =
      let i = (plus c a p).positive in let l = g.2.2 in
      pair_under σ s (renamed Operator.add k) (ranked x) (ranked y) (trees s x) (trees none y) (infix-folds Operator.add (plus c a p))
      (same-trees s x g.3 (on-left s x (omega (arith, i, l)))) (same-trees none y g.4 tt) f
  same-trees s (choice k d t) g b f =
      let e = a-question c a p g.0 in let l = g.2 in
      choice-under σ s k (ranked d) (ranked t) (trees s d) (trees none t)
      (question-folds Operator.conditional k g.1 e.positive e.question)
      (same-trees s d g.4 (on-left s d (omega (arith, l)))) (same-trees none t g.5 tt) f
  same-trees s (chosen k j d t h) g b f =
      let e = a-question c a p g.0 in let l = g.3 in
      chosen-under σ s k j (ranked d) (ranked t) (ranked h) (trees s d) (trees none t) (trees none h)
      (question-folds Operator.conditional k g.1 e.positive e.question)
      (question-folds Operator.conditional_else j g.2 e.positive e.colon)
      (same-trees s d g.7 (on-left s d (omega (arith, l)))) (same-trees none t g.8 tt) (same-trees none h g.9 tt) f
  same-trees none (script x) g b f =
      ap (λ (cs : Forest). node (bare Operator.semicolon (semicolon_of (shape x))) cs f) (same-trees none x g.1 tt nil)
      ∙ script-under (outline x).sort (shape x) (trees none x nil) f g.0 (sorted c a p x g.1)
  same-trees (some m) (script x) g b f = absurd (weak (script x) refl b)
  same-trees none (line e es x) g b f =
      ap (λ (cs : Forest). node (bare Operator.semicolon (first_of (shape x))) cs f) (same-trees none x g.2 tt nil)
      ∙ ap (λ (k : Token). node k (trees none x nil) f) (first-same x)
  same-trees (some m) (line e es x) g b f = absurd (weak (line e es x) refl b)
  same-trees none (lines x y) g b f =
      sym (beside-trees none (is_return_leaf (ranked x)) (ranked x) (ranked y) (label_of (ranked x)) (Returns.returned σ (ranked x))
      (Returns.returned σ (ranked y)) f
      (not-return (rank q) (ranked x) (returns c a p x g.2)))
      ∙ same-trees none x g.2 tt (Returns.returned σ (ranked y) f) ∙ ap (trees none x) (same-trees none y g.3 tt f)
  same-trees (some m) (lines x y) g b f = absurd (weak (lines x y) refl b)
  same-trees none (final x) g b f =
      ap (λ (cs : Forest). node (bare Operator.semicolon (first_of (shape x))) cs f) (same-trees none x g.1 tt nil)
      ∙ ap (λ (k : Token). node k (trees none x nil) f) (first-same x)
  same-trees (some m) (final x) g b f = absurd (weak (final x) refl b)

  -- The trees of the passes are the text's.
  pub text-trees : (t : Text) → well_formed q t ≡ true → (f : Forest) → Canonicals.trees q t f ≡ trees none t f
  unfolding well_formed Canonicals.trees
  text-trees t h f =
      let b = (and-eq-true_iff (Grammar.is_list (outline t).sort) (is_text q t)).0 h in
      (unfold under in same-trees none t (kept c a p t b.1) tt f)
