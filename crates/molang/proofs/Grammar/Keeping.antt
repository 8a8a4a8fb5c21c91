-- THE RULES GIVE WHAT EACH VIEW ASKS: a text that keeps them is canonical.
use Prim.Native.Nat.{ℕ, suc, ◌+◌, ◌<◌, ◌≤◌}
use mathlib.Core.{Path.{◌≡◌, refl, ap, sym, ◌∙◌, subst}, Bool.{Bool, true, false, ◌&&◌, true≢false, false≢true}}
use mathlib.Core.{List.{List, [], ◌∷◌}, Option.{Option, none, some}, Logic.{◌⊎◌, inl, inr}}
use native.Mathlib.Omega.{arith}
use lib.Dec.{eqb}
use borrow.Author.Tests.{eq-eqb, le-leb}
use Rattle.molang.specs.Operator
use Rattle.molang.specs.{Operator.{is_one_of, before_minus}, Forest.{Token, bare, renamed, closed_by}, Order.{Rules}}
use Rattle.molang.specs.Statements.{is_entered}
use Rattle.molang.specs.Grammar.{Text, operand, member, section, query, math_call, math_empty, index, arrow, prefix, returned, between}
use Rattle.molang.specs.Grammar.{minus, minuses, choice, chosen, script, line, lines, final, tokens, strength, outline, Sort}
use Rattle.molang.specs.Grammar.{a_statement, a_script, a_line, some_lines, a_last, is_statement, is_line, are_rest, begins_with, lacks}
use Rattle.molang.specs.Grammar as Grammar
use Rattle.molang.proofs.{Computed.{computed}, Booleans.{either}}
use Rattle.molang.proofs.Grammar.Shape.{Accessors, Shaped, Stated, is_item, is_list, is_one_expression, ends_bare, opens}
use Rattle.molang.proofs.{Grammar.Ranked.{Exp, is_tight, Ranked}, Grammar.Ranks.{rank}, Grammar.Prefixed.{last_of, is_operand, Unary}}
use Rattle.molang.proofs.{Grammar.Views.{shape, points, prefixed, over, holds, calling}, Grammar.Signed.{Unsigned, Signed}}
use Rattle.molang.proofs.{Grammar.Signs.{Chained}, Grammar.Sectioning.{top-number}, Grammar.Canonical.{arrow_rank, Arrows}}
use Rattle.molang.proofs.{Grammar.Gating.{in-shape}, Grammar.Levels.{ruled}}
use Rattle.molang.proofs.Grammar.Numbers.{height, rank-pointer, rank-math, rank-negate, rank-not, plus-infix, a-question}
use Rattle.molang.proofs.Grammar.Kept.{Prefix, Beside, Minus, Kept}
use Rattle.molang.proofs.Grammar.Given.{an-operand, a-query, Joins, one-join, an-infix-join, infix-unary, infix-unsigned}
use Rattle.molang.proofs.Grammar.Given.{round-label, section-label, math-label, query-label, and_both, Sorted, one_line, last_line}
use Rattle.molang.proofs.Grammar.Given.{blank-line, lines-sorted, script-sorted, statement-sorted, list-sorted, bare-sorted}
use Rattle.molang.proofs.Grammar.Given.{one-expression, joins, lacking, shaped-blanks, stated-blanks, joined-shapes}
use Rattle.molang.proofs.Grammar.Shape as Shapes
use Rattle.molang.proofs.Grammar.Ranked as Ranks

no-rest : (s : Sort) → are_rest s ≡ true → is_statement s ≡ true → ⊥
unfolding are_rest is_statement
no-rest a_statement h g = false≢true h
no-rest a_script h g = false≢true h
no-rest (a_line e) h g = false≢true g
no-rest (some_lines e) h g = false≢true g
no-rest a_last h g = false≢true g

line-rest : (s : Sort) → is_line s ≡ true → are_rest s ≡ true
unfolding are_rest is_line
line-rest a_statement h = h
line-rest a_script h = h
line-rest (a_line e) h = refl
line-rest (some_lines e) h = refl
line-rest a_last h = refl

module _ (c a p : Bool) where
  abbrev r : Rules
  r = ruled c a p

  -- What holds together is a statement.
  pub strong : (t : Text) → 1 ≤ strength r t → (outline t).sort ≡ a_statement
  unfolding strength outline
  strong (operand k) l = refl
  strong (member b m ms) l = refl
  strong (section o e x) l = refl
  strong (query k o e x) l = refl
  strong (math_call k o e x) l = refl
  strong (math_empty k o e) l = refl
  strong (index k o e x) l = refl
  strong (arrow k x y) l = refl
  strong (prefix k x) l = refl
  strong (returned k x) l = refl
  strong (between k x y) l = refl
  strong (minus k x y) l = refl
  strong (minuses k m x y) l = refl
  strong (choice q d t) l = refl
  strong (chosen q k d t e) l = refl
  strong (script x) l = absurd (omega (arith, l))
  strong (line e es x) l = absurd (omega (arith, l))
  strong (lines x y) l = absurd (omega (arith, l))
  strong (final x) l = absurd (omega (arith, l))

  item_of : (x : Text) → 1 ≤ strength r x → Sorted (outline x).sort (shape x) → is_item (shape x) ≡ true
  item_of x l s = subst (λ (m : Sort). Sorted m (shape x)) (strong x l) s

  -- What stands beside an operator of a positive rank.
  left-strong : (n : ℕ) (x y : Text) → 0 < Grammar.rank r n → Beside c a p n x y → 1 ≤ strength r x
  left-strong n x y l b = let m = b.0 in omega (arith, m, l)

  right-strong : (n : ℕ) (x y : Text) → Beside c a p n x y → 1 ≤ strength r y
  right-strong n x y b = let m = b.1 in omega (arith, m)

  arrow-positive : 0 < Grammar.rank r Operator.pointer
  arrow-positive = let e = rank-pointer c a p in omega (arith, e)

  minus-strong : (x y : Text) → Minus c a p x y → (1 ≤ strength r x) × (1 ≤ strength r y)
  minus-strong x y m = let i = (plus-infix c a p).positive in let a = m.2 in let b = m.3 in (omega (arith, i, a), omega (arith, b))

  both-items : (x y : Text) → 1 ≤ strength r x → 1 ≤ strength r y → Sorted (outline x).sort (shape x) → Sorted (outline y).sort (shape y)
      → (is_item (shape x) && is_item (shape y)) ≡ true
  both-items x y l m s t = and_both (is_item (shape x)) (is_item (shape y)) (item_of x l s) (item_of y m t)

  -- Beside a `?` that pairs to the right.
  asked : (n : ℕ) → p ≡ true → Grammar.rank r Operator.conditional ≤ n → 1 ≤ n
  asked n e h = let q = a-question c a p e in let z = q.given in let l = q.positive in omega (arith, z, l, h)

  asked-left : (n : ℕ) → Grammar.rank r Operator.conditional < n → 1 ≤ n
  asked-left n h = omega (arith, h)

  -- ---- shapes

  pub sorted : (t : Text) → Kept c a p t → Sorted (outline t).sort (shape t)
  unfolding outline shape is_item is_list Shapes.are_lines Shapes.starts_statement Shapes.has_semicolon
  sorted (operand k) g = refl
  sorted (member b m ms) g = refl
  sorted (section o e x) g = refl
  sorted (query k o e x) g = refl
  sorted (math_call k o e x) g = refl
  sorted (math_empty k o e) g = refl
  sorted (index k o e x) g = refl
  sorted (arrow k x y) g =
      both-items x y (left-strong Operator.pointer x y arrow-positive g.1) (right-strong Operator.pointer x y g.1) (sorted x g.2)
      (sorted y g.3)
  sorted (prefix k x) g = let l = g.1 in item_of x (omega (arith, l)) (sorted x g.2)
  sorted (returned k x) g = item_of x g.1 (sorted x g.3)
  sorted (between k x y) g =
      both-items x y (left-strong k.op x y g.0.positive g.1) (right-strong k.op x y g.1) (sorted x g.2) (sorted y g.3)
  sorted (minus k x y) g = let m = minus-strong x y g.1 in both-items x y m.0 m.1 (sorted x g.2) (sorted y g.3)
  sorted (minuses k l x y) g = let m = minus-strong x y g.2 in both-items x y m.0 m.1 (sorted x g.3) (sorted y g.4)
  sorted (choice q d t) g = both-items d t (asked-left _ g.2) (asked _ g.0 g.3) (sorted d g.4) (sorted t g.5)
  sorted (chosen q k d t e) g =
      and_both (is_item (shape d)) (is_item (shape t) && is_item (shape e)) (item_of d (asked-left _ g.3) (sorted d g.7))
      (both-items t e (asked _ g.0 g.4) (asked _ g.0 g.6) (sorted t g.8) (sorted e g.9))
  sorted (script x) g = script-sorted (outline x).sort (shape x) g.0 (sorted x g.1)
  sorted (line e es x) g =
      blank-line e es (Shapes.statement e (shape x))
      (one_line e (shape x) (statement-sorted (outline x).sort (shape x) g.1 (sorted x g.2)))
  sorted (lines x y) g = lines-sorted (outline x).sort (outline y).sort (shape x) (shape y) g.0 g.1 (sorted x g.2)
      (sorted y g.3)
  sorted (final x) g = last_line (shape x) (statement-sorted (outline x).sort (shape x) g.0 (sorted x g.1))

  question-join : (q : Token) → q.op ≡ Operator.conditional → Joins q
  question-join q e = one-join q Operator.conditional e (unfold computed in refl)

  pub shaped : (t : Text) → Kept c a p t → Shaped (shape t)
  unfolding shape ends_bare opens computed
  shaped (operand k) g = (an-operand k g).plain
  shaped (member b m ms) g = ((an-operand b g.0).plain, g.1, g.2)
  shaped (section o e x) g = (g.0, shaped x g.2)
  shaped (query k o e x) g = (g.0, (a-query k g.0).plain, g.1, shaped x g.4)
  shaped (math_call k o e x) g = (g.0, g.1, shaped x g.3)
  shaped (math_empty k o e) g = g
  shaped (index k o e x) g = (g.0, g.1, shaped x g.4)
  shaped (arrow k x y) g = (g.0, shaped x g.2, shaped y g.3)
  shaped (prefix k x) g =
      let j = prefix-join k x g.0 in (ap (λ (b : Bool). b && opens (shape x)) j.uncalled, j.plain, shaped x g.2)
    where
      prefix-join : (k : Token) (x : Text) → Prefix c a p k x → Joins k
      prefix-join k x (inl e) = one-join k Operator.logical_not e refl
      prefix-join k x (inr e) = one-join k Operator.negate e.0 refl
  shaped (returned k x) g =
      let j = one-join k Operator.return g.0 refl in (ap (λ (b : Bool). b && opens (shape x)) j.uncalled, j.plain, shaped x g.3)
  shaped (between k x y) g = joined-shapes k (shape x) (shape y) (an-infix-join k g.0.listed) (shaped x g.2) (shaped y g.3)
  shaped (minus k x y) g = joined-shapes k (shape x) (shape y) (one-join k Operator.negate g.0 refl) (shaped x g.2) (shaped y g.3)
  shaped (minuses k l x y) g =
      let j = one-join l Operator.negate g.1 refl in
      joined-shapes k (shape x) (Shapes.beside (Shapes.token l) (shape y)) (one-join k Operator.negate g.0 refl) (shaped x g.3)
      (ap (λ (b : Bool). b && opens (shape y)) j.uncalled, j.plain, shaped y g.4)
  shaped (choice q d t) g = joined-shapes q (shape d) (shape t) (question-join q g.1) (shaped d g.4) (shaped t g.5)
  shaped (chosen q k d t e) g =
      joined-shapes q (shape d) (Shapes.beside (shape t) (Shapes.beside (Shapes.token k) (shape e))) (question-join q g.1)
      (shaped d g.7)
      (joined-shapes k (shape t) (shape e) (one-join k Operator.conditional_else g.2 refl) (shaped t g.8) (shaped e g.9))
  shaped (script x) g = shaped x g.1
  shaped (line e es x) g = shaped-blanks (Shapes.statement e (shape x)) es (g.0.0, shaped x g.2) g.0.1
  shaped (lines x y) g = (
    ap (λ (b : Bool). b && opens (shape y)) (bare-sorted (outline x).sort (shape x) g.0 (sorted x g.2)),
    shaped x g.2,
    shaped
        y g.3,
  )
  shaped (final x) g = shaped x g.1

  pub list_of : (x : Text) → Grammar.is_list (outline x).sort ≡ true → Kept c a p x → is_list (shape x) ≡ true
  list_of x h g = list-sorted (outline x).sort (shape x) h (sorted x g)

  single : (x : Text) → Grammar.is_list (outline x).sort ≡ true → Kept c a p x → Stated (shape x) → lacks Operator.semicolon x ≡ true
      → is_one_expression (shape x) ≡ true
  single x h g s l =
      one-expression (shape x) (shaped x g) s (list_of x h g)
      (in-shape (λ k. eqb k.op Operator.semicolon ≡ false) x [] (lacking Operator.semicolon x refl l)).0

  pub stated : (t : Text) → Kept c a p t → Stated (shape t)
  unfolding shape
  stated (operand k) g = tt
  stated (member b m ms) g = tt
  stated (section o e x) g = (list_of x g.1 g.2, stated x g.2)
  stated (query k o e x) g = let s = stated x g.4 in (
    either (is_entered k.op) (λ t. rw t refl)
        (λ f. rw f (single x g.2 g.4 s (rw f at g.3))),
    list_of x g.2 g.4,
    s,
  )
  stated (math_call k o e x) g = (list_of x g.2 g.3, stated x g.3)
  stated (math_empty k o e) g = tt
  stated (index k o e x) g = let s = stated x g.4 in (single x g.2 g.4 s g.3, list_of x g.2 g.4, s)
  stated (arrow k x y) g = (stated x g.2, stated y g.3)
  stated (prefix k x) g = (tt, stated x g.2)
  stated (returned k x) g = (tt, stated x g.3)
  stated (between k x y) g = (stated x g.2, (tt, stated y g.3))
  stated (minus k x y) g = (stated x g.2, (tt, stated y g.3))
  stated (minuses k l x y) g = (stated x g.3, (tt, (tt, stated y g.4)))
  stated (choice q d t) g = (stated d g.4, (tt, stated t g.5))
  stated (chosen q k d t e) g = (stated d g.7, (tt, (stated t g.8, (tt, stated e g.9))))
  stated (script x) g = (refl, stated x g.1)
  stated (line e es x) g = stated-blanks (Shapes.statement e (shape x)) es (stated x g.2)
  stated (lines x y) g = (stated x g.2, stated y g.3)
  stated (final x) g = stated x g.1

  pub arrows : (t : Text) → Kept c a p t → Arrows t
  arrows (operand k) g = tt
  arrows (member b m ms) g = tt
  arrows (section o e x) g = arrows x g.2
  arrows (query k o e x) g = arrows x g.4
  arrows (math_call k o e x) g = arrows x g.3
  arrows (math_empty k o e) g = tt
  arrows (index k o e x) g = arrows x g.4
  arrows (arrow k x y) g = (g.0, arrows x g.2, arrows y g.3)
  arrows (prefix k x) g = arrows x g.2
  arrows (returned k x) g = arrows x g.3
  arrows (between k x y) g = (arrows x g.2, arrows y g.3)
  arrows (minus k x y) g = (g.0, arrows x g.2, arrows y g.3)
  arrows (minuses k l x y) g = (g.0, arrows x g.3, arrows y g.4)
  arrows (choice q d t) g = (arrows d g.4, arrows t g.5)
  arrows (chosen q k d t e) g = (arrows d g.7, arrows t g.8, arrows e g.9)
  arrows (script x) g = arrows x g.1
  arrows (line e es x) g = arrows x g.2
  arrows (lines x y) g = (arrows x g.2, arrows y g.3)
  arrows (final x) g = arrows x g.1

  pub chained : (t : Text) → Kept c a p t → Chained t
  chained (operand k) g = tt
  chained (member b m ms) g = g.2
  chained (section o e x) g = chained x g.2
  chained (query k o e x) g = chained x g.4
  chained (math_call k o e x) g = chained x g.3
  chained (math_empty k o e) g = tt
  chained (index k o e x) g = chained x g.4
  chained (arrow k x y) g = (chained x g.2, chained y g.3)
  chained (prefix k x) g = chained x g.2
  chained (returned k x) g = chained x g.3
  chained (between k x y) g = (chained x g.2, chained y g.3)
  chained (minus k x y) g = (chained x g.2, chained y g.3)
  chained (minuses k l x y) g = (chained x g.3, chained y g.4)
  chained (choice q d t) g = (chained d g.4, chained t g.5)
  chained (chosen q k d t e) g = (chained d g.7, chained t g.8, chained e g.9)
  chained (script x) g = chained x g.1
  chained (line e es x) g = chained x g.2
  chained (lines x y) g = (chained x g.2, chained y g.3)
  chained (final x) g = chained x g.1

  -- ---- ranks of the operators of texts

  prefix-rank : (k : Token) (x : Text) → Prefix c a p k x → Grammar.rank r k.op ≡ suc (height c a p)
  prefix-rank k x (inl e) = ap (Grammar.rank r) e ∙ rank-not c a p
  prefix-rank k x (inr e) = ap (Grammar.rank r) e.0 ∙ rank-negate c a p

  pub question-low : (q : Token) → p ≡ true → q.op ≡ Operator.conditional → Grammar.rank r q.op ≤ height c a p
  question-low q e h =
      let z = ap (Grammar.rank r) h in let b = a-question c a p e in let y = b.given in let l = b.low in omega (arith, z, y, l)

  -- ---- the pointer's level

  pub over-tight : (rank : ℕ → ℕ) (m : ℕ) (e : Exp) (ms : List Token) → is_tight rank m e ≡ true → is_tight rank m (over e ms) ≡ true
  unfolding over is_tight
  over-tight rank m e [] h = h
  over-tight rank m e (k ∷ ms) h = over-tight rank m (Ranks.over k e) ms refl

  pub over-ranked : (rank : ℕ → ℕ) (m : ℕ) (e : Exp) (ms : List Token) → rank Operator.member_accessor ≡ 0 → Ranked rank m e → Accessors ms
      → Ranked rank m (over e ms)
  unfolding over
  over-ranked rank m e [] z h g = h
  over-ranked rank m e (k ∷ ms) z h g = over-ranked rank m (Ranks.over k e) ms z (ap rank g.0 ∙ z, h) g.1

  plus-low : Grammar.rank r Operator.add ≤ height c a p
  plus-low = (plus-infix c a p).low

  -- What binds as tightly as a `->` is no list of several to its level; what binds more tightly has no `->` outside its brackets.
  pointed : (t : Text) → Kept c a p t → suc (suc (suc (height c a p))) ≤ strength r t → (m : ℕ)
      → suc (suc (height c a p + m)) ≤ strength r t
      → is_tight arrow_rank m (points t) ≡ true
  unfolding strength points is_tight
  pointed (operand k) g l m h = refl
  pointed (member b n ms) g l m h = over-tight arrow_rank m (Ranks.over n (Ranks.leaf b)) ms refl
  pointed (section o e x) g l m h = refl
  pointed (query k o e x) g l m h = refl
  pointed (math_call k o e x) g l m h = let z = rank-math c a p k.op g.0 in absurd (omega (arith, l, z))
  pointed (math_empty k o e) g l m h = let z = rank-math c a p k.op g.0 in absurd (omega (arith, l, z))
  pointed (index k o e x) g l m h = refl
  pointed (arrow k x y) g l m h =
      let e : arrow_rank k.op ≡ 1 = ap arrow_rank g.0 ∙ (unfold arrow_rank in refl) in
      let z = ap (Grammar.rank r) g.0 in le-leb m (arrow_rank k.op) (omega (arith, rank-pointer c a p))
  pointed (prefix k x) g l m h = let z = prefix-rank k x g.0 in absurd (omega (arith, l, z))
  pointed (returned k x) g l m h = absurd (omega (arith, l))
  pointed (between k x y) g l m h = let z = g.0.low in absurd (omega (arith, l, z))
  pointed (minus k x y) g l m h = let z = plus-low in absurd (omega (arith, l, z))
  pointed (minuses k n x y) g l m h = let z = plus-low in absurd (omega (arith, l, z))
  pointed (choice q d t) g l m h = let z = question-low q g.0 g.1 in absurd (omega (arith, l, z))
  pointed (chosen q k d t e) g l m h = let z = question-low q g.0 g.1 in absurd (omega (arith, l, z))
  pointed (script x) g l m h = absurd (omega (arith, l))
  pointed (line e es x) g l m h = absurd (omega (arith, l))
  pointed (lines x y) g l m h = absurd (omega (arith, l))
  pointed (final x) g l m h = absurd (omega (arith, l))

  joins-unpointed : (k : Token) (m : ℕ) → k.op ≡ m → is_one_of joins m ≡ true → arrow_rank k.op ≡ 0
  joins-unpointed k m e h = (one-join k m e h).unpointed

  prefix-unpointed : (k : Token) (x : Text) → Prefix c a p k x → arrow_rank k.op ≡ 0
  unfolding computed
  prefix-unpointed k x (inl e) = joins-unpointed k Operator.logical_not e refl
  prefix-unpointed k x (inr e) = joins-unpointed k Operator.negate e.0 refl

  pub tight : (t : Text) → Kept c a p t → Ranked arrow_rank 0 (points t)
  unfolding points closed_by renamed bare computed arrow_rank
  tight (operand k) g = (an-operand k g).unpointed
  tight (member b m ms) g =
      over-ranked arrow_rank 0 (Ranks.over m (Ranks.leaf b)) ms refl (ap arrow_rank g.2.0, (an-operand b g.0).unpointed) g.2.1
  tight (section o e x) g = ((section-label o e g.0).unpointed, tight x g.2)
  tight (query k o e x) g = ((query-label k g.0).unpointed, ((round-label o e g.1).unpointed, tight x g.4))
  tight (math_call k o e x) g = ((math-label k g.0).unpointed, ((round-label o e g.1).unpointed, tight x g.3))
  tight (math_empty k o e) g = ((math-label k g.0).unpointed, (round-label o e g.1).unpointed)
  tight (index k o e x) g = (refl, tight x g.4)
  tight (arrow k x y) g =
      let e : arrow_rank k.op ≡ 1 = ap arrow_rank g.0 in
      let z = rank-pointer c a p in
      let l = g.1.0 in
      let m = g.1.1 in (
        omega (arith, e),
        (λ q. omega (arith, e, q)),
        pointed x g.2 (omega arith) (arrow_rank k.op) (omega arith),
        ap (λ (n : ℕ). is_tight arrow_rank (suc n) (points y)) e ∙ pointed y g.3 (omega arith) 2 (omega arith),
        tight x g.2,
        tight y g.3,
      )
  tight (prefix k x) g = (prefix-unpointed k x g.0, tight x g.2)
  tight (returned k x) g = (joins-unpointed k Operator.return g.0 refl, tight x g.3)
  tight (between k x y) g = (tight x g.2, ((an-infix-join k g.0.listed).unpointed, tight y g.3))
  tight (minus k x y) g = (tight x g.2, (joins-unpointed k Operator.negate g.0 refl, tight y g.3))
  tight (minuses k l x y) g =
      (tight x g.3, (joins-unpointed k Operator.negate g.0 refl, (joins-unpointed l Operator.negate g.1 refl, tight y g.4)))
  tight (choice q d t) g = (tight d g.4, (joins-unpointed q Operator.conditional g.1 refl, tight t g.5))
  tight (chosen q k d t e) g = (
    tight d g.7,
    (
      joins-unpointed q Operator.conditional g.1 refl,
      (tight t g.8, (joins-unpointed k Operator.conditional_else g.2 refl, tight e g.9)),
    ),
  )
  tight (script x) g = (refl, tight x g.1)
  tight (line e es x) g = (refl, tight x g.2)
  tight (lines x y) g = (tight x g.2, tight y g.3)
  tight (final x) g = (refl, tight x g.1)

  -- ---- minuses

  last-same : (t : Text) → Kept c a p t → (last_of (prefixed t)).op ≡ (outline t).last
  unfolding prefixed last_of outline holds calling closed_by renamed bare
  last-same (operand k) g = refl
  last-same (member b m ms) g = top-number b m ms g.2
  last-same (section o e x) g = refl
  last-same (query k o e x) g = refl
  last-same (math_call k o e x) g = refl
  last-same (math_empty k o e) g = refl
  last-same (index k o e x) g = refl
  last-same (arrow k x y) g = refl
  last-same (prefix k x) g = last-same x g.2
  last-same (returned k x) g = last-same x g.3
  last-same (between k x y) g = last-same y g.3
  last-same (minus k x y) g = last-same y g.3
  last-same (minuses k l x y) g = last-same y g.4
  last-same (choice q d t) g = last-same t g.5
  last-same (chosen q k d t e) g = last-same e g.9
  last-same (script x) g = refl
  last-same (line e es x) g = refl
  last-same (lines x y) g = last-same y g.3
  last-same (final x) g = refl

  -- What binds as tightly as a prefix operator is one operand with its prefixes.
  one-operand : (t : Text) → Kept c a p t → suc (height c a p) ≤ strength r t → is_operand (prefixed t) ≡ true
  unfolding strength prefixed is_operand holds calling
  one-operand (operand k) g l = refl
  one-operand (member b n ms) g l = refl
  one-operand (section o e x) g l = refl
  one-operand (query k o e x) g l = refl
  one-operand (math_call k o e x) g l = refl
  one-operand (math_empty k o e) g l = refl
  one-operand (index k o e x) g l = refl
  one-operand (arrow k x y) g l = refl
  one-operand (prefix k x) g l = one-operand x g.2 g.1
  one-operand (returned k x) g l = absurd (omega (arith, l))
  one-operand (between k x y) g l = let z = g.0.low in absurd (omega (arith, l, z))
  one-operand (minus k x y) g l = let z = plus-low in absurd (omega (arith, l, z))
  one-operand (minuses k n x y) g l = let z = plus-low in absurd (omega (arith, l, z))
  one-operand (choice q d t) g l = let z = question-low q g.0 g.1 in absurd (omega (arith, l, z))
  one-operand (chosen q k d t e) g l = let z = question-low q g.0 g.1 in absurd (omega (arith, l, z))
  one-operand (script x) g l = absurd (omega (arith, l))
  one-operand (line e es x) g l = absurd (omega (arith, l))
  one-operand (lines x y) g l = absurd (omega (arith, l))
  one-operand (final x) g l = absurd (omega (arith, l))

  -- What binds more tightly than a `->` does not begin with a minus.
  no_minus : (t : Text) → Kept c a p t → suc (suc (suc (suc (height c a p)))) ≤ strength r t → (ks : List Token)
      → begins_with Operator.negate (tokens t ks) ≡ true → ⊥
  unfolding strength tokens begins_with
  no_minus (operand k) g l ks h = true≢false (sym h ∙ (an-operand k g).unsigned.0)
  no_minus (member b n ms) g l ks h = true≢false (sym h ∙ (an-operand b g.0).unsigned.0)
  no_minus (section o e x) g l ks h = true≢false (sym h ∙ (section-label o e g.0).unsigned.0)
  no_minus (query k o e x) g l ks h = true≢false (sym h ∙ (query-label k g.0).unsigned.0)
  no_minus (math_call k o e x) g l ks h = true≢false (sym h ∙ (math-label k g.0).unsigned.0)
  no_minus (math_empty k o e) g l ks h = true≢false (sym h ∙ (math-label k g.0).unsigned.0)
  no_minus (index k o e x) g l ks h = true≢false (sym h ∙ ap (λ (n : ℕ). eqb n Operator.negate) g.0)
  no_minus (arrow k x y) g l ks h = let z = ap (Grammar.rank r) g.0 in let y = rank-pointer c a p in omega (arith, l, z, y)
  no_minus (prefix k x) g l ks h = let z = prefix-rank k x g.0 in omega (arith, l, z)
  no_minus (returned k x) g l ks h = omega (arith, l)
  no_minus (between k x y) g l ks h = let z = g.0.low in omega (arith, l, z)
  no_minus (minus k x y) g l ks h = let z = plus-low in omega (arith, l, z)
  no_minus (minuses k n x y) g l ks h = let z = plus-low in omega (arith, l, z)
  no_minus (choice q d t) g l ks h = let z = question-low q g.0 g.1 in omega (arith, l, z)
  no_minus (chosen q k d t e) g l ks h = let z = question-low q g.0 g.1 in omega (arith, l, z)
  no_minus (script x) g l ks h = omega (arith, l)
  no_minus (line e es x) g l ks h = omega (arith, l)
  no_minus (lines x y) g l ks h = omega (arith, l)
  no_minus (final x) g l ks h = omega (arith, l)

  one-unsigned : (k : Token) (m : ℕ) → k.op ≡ m → eqb m Operator.negate ≡ false → eqb m Operator.logical_not ≡ false → Unsigned k
  one-unsigned k m e f g = (ap (λ (n : ℕ). eqb n Operator.negate) e ∙ f, ap (λ (n : ℕ). eqb n Operator.logical_not) e ∙ g)

  unary-after : (k : Token) (m : ℕ) → k.op ≡ m → before_minus m ≡ Operator.operator → Unary (some k)
  unary-after k m e h = ap before_minus e ∙ h

  -- Where a minus at the text's beginning would be a prefix.
  abbrev Begins : Text → List Token → Option Token → Type 0
  Begins t ks o = is_statement (outline t).sort ≡ true → begins_with Operator.negate (tokens t ks) ≡ true → Unary o

  prefix-signed : (k : Token) (x : Text) (ks : List Token) (o : Option Token) → Prefix c a p k x → Begins (prefix k x) ks o
      → ((eqb k.op Operator.logical_not ≡ true) ⊎ ((eqb k.op Operator.negate ≡ true) × Unary o)) × Begins x [] (some k)
  unfolding computed
  prefix-signed k x ks o (inl e) h = (inl (eq-eqb k.op Operator.logical_not e), λ s b. unary-after k Operator.logical_not e refl)
  prefix-signed k x ks o (inr e) h =
      let m = eq-eqb k.op Operator.negate e.0 in (inr (m, h refl m), λ s b. absurd (true≢false (sym b ∙ e.1)))

  pub signs : (t : Text) (ks : List Token) (o : Option Token) → Kept c a p t → Begins t ks o → Signed o t
  unfolding tokens outline is_statement
  signs (operand k) ks o g h = (an-operand k g).unsigned
  signs (member b m ms) ks o g h = (an-operand b g.0).unsigned
  signs (section l e x) ks o g h = ((section-label l e g.0).unsigned, signs x [] none g.2 (λ s b. tt))
  signs (query k l e x) ks o g h = ((query-label k g.0).unsigned, (round-label l e g.1).unsigned, signs x [] none g.4 (λ s b. tt))
  signs (math_call k l e x) ks o g h = ((math-label k g.0).unsigned, (round-label l e g.1).unsigned, signs x [] none g.3 (λ s b. tt))
  signs (math_empty k l e) ks o g h = ((math-label k g.0).unsigned, (round-label l e g.1).unsigned)
  signs (index k l e x) ks o g h = signs x [] none g.4 (λ s b. tt)
  signs (arrow k x y) ks o g h =
      let z = rank-pointer c a p in let m = g.1.1 in (
        one-unsigned k Operator.pointer g.0 refl refl,
        signs x [] none g.2 (λ s b. tt),
        signs y [] (some (last_of (prefixed x))) g.3 (λ s b. absurd (no_minus y g.3 (omega (arith, z, m)) [] b)),
      )
  signs (prefix k x) ks o g h =
      let q = prefix-signed k x ks o g.0 h in (q.0, one-operand x g.2 g.1, signs x [] (some k) g.2 q.1)
  signs (returned k x) ks o g h = (
    one-unsigned k Operator.return g.0 refl refl,
    signs x [] (some k) g.3
        (λ s b. unary-after k Operator.return g.0 return-unary),
  )
    where
      return-unary : before_minus Operator.return ≡ Operator.operator
      return-unary = unfold computed in refl
  signs (between k x y) ks o g h = (
    infix-unsigned k g.0.listed,
    signs x (k ∷ tokens y ks) o g.2 (λ s b. h refl b),
    signs y [] (some k) g.3 (λ s b. infix-unary k.op g.0.listed),
  )
  signs (minus k x y) ks o g h = (
    eq-eqb k.op Operator.negate g.0,
    ap before_minus (last-same x g.2) ∙ g.1.0,
    signs x (k ∷ tokens y ks) o g.2 (λ s b. h refl b),
    signs y [] (some k) g.3 (λ s b. absurd (true≢false (sym b ∙ g.1.1))),
  )
  signs (minuses k l x y) ks o g h = (
    eq-eqb k.op Operator.negate g.0,
    eq-eqb l.op Operator.negate g.1,
    ap before_minus (last-same x g.3) ∙ g.2.0,
    signs x (k ∷ l ∷ tokens y ks) o g.3 (λ s b. h refl b),
    signs y [] (some l) g.4 (λ s b. absurd (true≢false (sym b ∙ g.2.1))),
  )
  signs (choice q d t) ks o g h = (
    one-unsigned q Operator.conditional g.1 refl refl,
    signs d (q ∷ tokens t ks) o g.4 (λ s b. h refl b),
    signs t [] (some q) g.5 (λ s b. unary-after q Operator.conditional g.1 question-unary),
  )
    where
      question-unary : before_minus Operator.conditional ≡ Operator.operator
      question-unary = unfold computed in refl
  signs (chosen q k d t e) ks o g h = (
    one-unsigned q Operator.conditional g.1 refl refl,
    one-unsigned k Operator.conditional_else g.2 refl refl,
    signs d (q ∷ tokens t (k ∷ tokens e ks)) o g.7 (λ s b. h refl b),
    signs t [] (some q) g.8 (λ s b. unary-after q Operator.conditional g.1 question-unary),
    signs e [] (some k) g.9 (λ s b. unary-after k Operator.conditional_else g.2 colon-unary),
  )
    where
      question-unary : before_minus Operator.conditional ≡ Operator.operator
      question-unary = unfold computed in refl

      colon-unary : before_minus Operator.conditional_else ≡ Operator.operator
      colon-unary = unfold computed in refl
  signs (script x) ks o g h = signs x [] none g.1 (λ s b. tt)
  signs (line e es x) ks o g h = signs x [] none g.2 (λ s b. tt)
  signs (lines x y) ks o g h = (
    signs x [] o g.2 (λ s b. absurd (no-rest (outline x).sort (line-rest (outline x).sort g.0) s)),
    signs y [] (some (last_of (prefixed x))) g.3 (λ s b. absurd (no-rest (outline y).sort g.1 s)),
  )
  signs (final x) ks o g h = signs x [] none g.1 (λ s b. tt)
