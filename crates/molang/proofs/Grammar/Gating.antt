-- A PASS THAT DOES NOT RUN under a used set with all operators of a text has nothing to do in it.
use Prim.Native.Nat.{ℕ}
use mathlib.Core.{Path.{subst}, List.{List, [], ◌∷◌}}
use Rattle.molang.specs.Operator
use Rattle.molang.specs.{Forest.{Token, renamed, closed_by}, Grammar.{Text, tokens_before, tokens}}
use Rattle.molang.proofs.Grammar.Shape.{Shape, token, beside, chain, section, query, math_call, math_empty, index, pointer, script}
use Rattle.molang.proofs.{Grammar.Shape.{statement, last, blank}, Grammar.Ranked.{Exp}}
use Rattle.molang.proofs.{Grammar.Views.{blanks, shape, over, negated, ranked}, Grammar.Canonical.{Arrows}}
use Rattle.molang.proofs.Grammar.Used.{Each, EachIn, EachOf}
use Rattle.molang.proofs.Grammar.Ranked as Ranks
use Rattle.molang.specs.Grammar as Texts

-- ---- from the list of tokens to the shape and the expression

pub each_map : (Q R : Token → Type 0) → ((k : Token) → Q k → R k) → (ks : List Token) → Each Q ks → Each R ks
each_map Q R f [] e = tt
each_map Q R f (k ∷ ks) e = (f k e.0, each_map Q R f ks e.1)

pub map : (Q R : Token → Type 0) → ((k : Token) → Q k → R k) → (x : Shape) → EachIn Q x → EachIn R x
map Q R f (token k) e = f k e
map Q R f (beside x y) e = (map Q R f x e.0, map Q R f y e.1)
map Q R f (chain b ms) e = (f b e.0, each_map Q R f ms e.1)
map Q R f (section o c x) e = (f o e.0, f c e.1, map Q R f x e.2)
map Q R f (query k o c x) e = (f k e.0, f o e.1, f c e.2, map Q R f x e.3)
map Q R f (math_call k o c x) e = (f k e.0, f o e.1, f c e.2, map Q R f x e.3)
map Q R f (math_empty k o c) e = (f k e.0, f o e.1, f c e.2)
map Q R f (index k o c x) e = (f k e.0, f o e.1, f c e.2, map Q R f x e.3)
map Q R f (pointer k x y) e = (f k e.0, map Q R f x e.1, map Q R f y e.2)
map Q R f (script q x) e = map Q R f x e
map Q R f (statement s x) e = (f s e.0, map Q R f x e.1)
map Q R f (last x) e = map Q R f x e
map Q R f (blank s) e = f s e

module _ (Q : Token → Type 0) where
  each-before : (ks r : List Token) → Each Q (tokens_before ks r) → Each Q ks × Each Q r
  unfolding tokens_before
  each-before [] r e = (tt, e)
  each-before (k ∷ ks) r e = let i = each-before ks r e.1 in ((e.0, i.0), i.1)

  each-blanks : (x : Shape) (es : List Token) → EachIn Q x → Each Q es → EachIn Q (blanks x es)
  unfolding blanks
  each-blanks x [] h e = h
  each-blanks x (s ∷ es) h e = each-blanks (beside x (blank s)) es (h, e.0) e.1

  pub in-shape : (t : Text) (r : List Token) → Each Q (tokens t r) → EachIn Q (shape t) × Each Q r
  unfolding tokens shape
  in-shape (Texts.operand k) r e = e
  in-shape (Texts.member b a ms) r e = let i = each-before ms r e.1.1 in ((e.0, (e.1.0, i.0)), i.1)
  in-shape (Texts.section o c x) r e = let i = in-shape x (c ∷ r) e.1 in ((e.0, i.1.0, i.0), i.1.1)
  in-shape (Texts.query k o c x) r e = let i = in-shape x (c ∷ r) e.1.1 in ((e.0, e.1.0, i.1.0, i.0), i.1.1)
  in-shape (Texts.math_call k o c x) r e = let i = in-shape x (c ∷ r) e.1.1 in ((e.0, e.1.0, i.1.0, i.0), i.1.1)
  in-shape (Texts.math_empty k o c) r e = ((e.0, e.1.0, e.1.1.0), e.1.1.1)
  in-shape (Texts.index k o c x) r e = let i = in-shape x (c ∷ r) e.1.1 in ((e.0, e.1.0, i.1.0, i.0), i.1.1)
  in-shape (Texts.arrow k x y) r e = let i = in-shape x (k ∷ tokens y r) e in let j = in-shape y r i.1.1 in
      ((i.1.0, i.0, j.0), j.1)
  in-shape (Texts.prefix k x) r e = let i = in-shape x r e.1 in ((e.0, i.0), i.1)
  in-shape (Texts.returned k x) r e = let i = in-shape x r e.1 in ((e.0, i.0), i.1)
  in-shape (Texts.between k x y) r e = let i = in-shape x (k ∷ tokens y r) e in let j = in-shape y r i.1.1 in
      ((i.0, (i.1.0, j.0)), j.1)
  in-shape (Texts.minus k x y) r e = let i = in-shape x (k ∷ tokens y r) e in let j = in-shape y r i.1.1 in
      ((i.0, (i.1.0, j.0)), j.1)
  in-shape (Texts.minuses k l x y) r e =
      let i = in-shape x (k ∷ l ∷ tokens y r) e in let j = in-shape y r i.1.1.1 in ((i.0, (i.1.0, (i.1.1.0, j.0))), j.1)
  in-shape (Texts.choice q c t) r e = let i = in-shape c (q ∷ tokens t r) e in let j = in-shape t r i.1.1 in
      ((i.0, (i.1.0, j.0)), j.1)
  in-shape (Texts.chosen q k c t f) r e =
      let i = in-shape c (q ∷ tokens t (k ∷ tokens f r)) e in let j = in-shape t (k ∷ tokens f r) i.1.1 in
      let m = in-shape f r j.1.1 in
      ((i.0, (i.1.0, (j.0, (j.1.0, m.0)))), m.1)
  in-shape (Texts.script x) r e = in-shape x r e
  in-shape (Texts.line s es x) r e =
      let i = in-shape x (s ∷ tokens_before es r) e in let j = each-before es r i.1.1 in
      (each-blanks (statement s (shape x)) es (i.1.0, i.0) j.0, j.1)
  in-shape (Texts.lines x y) r e = let i = in-shape x (tokens y r) e in let j = in-shape y r i.1 in ((i.0, j.0), j.1)
  in-shape (Texts.final x) r e = in-shape x r e

-- Of expressions the same by numbers; a binary minus has become a plus.
module _ (Q : ℕ → Type 0) (plus : Q Operator.negate → Q Operator.add) where
  abbrev QT : Token → Type 0
  QT k = Q k.op

  each_over : (e : Exp) (ms : List Token) → EachOf Q e → EachOf Q (over e ms)
  unfolding over
  each_over e [] h = h
  each_over e (a ∷ ms) h = each_over (Ranks.over a e) ms h

  each-negated : (k : Token) (e : Exp) → EachOf Q e → EachOf Q (negated k e)
  unfolding negated
  each-negated k (Ranks.leaf l) h = h
  each-negated k (Ranks.over l x) h = h
  each-negated k (Ranks.beside x y) h = (each-negated k x h.0, h.1)
  each-negated k (Ranks.between l x y) h = (h.0, each-negated k x h.1, h.2)
  each-negated k (Ranks.choice q c t) h = (h.0, each-negated k c h.1, h.2)
  each-negated k (Ranks.chosen q l c t e) h = (h.0, h.1, each-negated k c h.2, h.3, h.4)

  pub in-ranked : (t : Text) (r : List Token) → Arrows t → Each QT (tokens t r) → EachOf Q (ranked t) × Each QT r
  unfolding tokens ranked closed_by renamed
  in-ranked (Texts.operand k) r m e = e
  in-ranked (Texts.member b a ms) r m e = (each_over (Ranks.over a (Ranks.leaf b)) ms e.0, (each-before QT ms r e.1.1).1)
  in-ranked (Texts.section o c x) r m e = let i = in-ranked x (c ∷ r) m e.1 in (i.0, i.1.1)
  in-ranked (Texts.query k o c x) r m e = let i = in-ranked x (c ∷ r) m e.1.1 in (i.0, i.1.1)
  in-ranked (Texts.math_call k o c x) r m e = let i = in-ranked x (c ∷ r) m e.1.1 in (i.0, i.1.1)
  in-ranked (Texts.math_empty k o c) r m e = (e.1.0, e.1.1.1)
  in-ranked (Texts.index k o c x) r m e = let i = in-ranked x (c ∷ r) m e.1.1 in (i.0, i.1.1)
  in-ranked (Texts.arrow k x y) r m e =
      let i = in-ranked x (k ∷ tokens y r) m.1 e in let j = in-ranked y r m.2 i.1.1 in ((i.0, j.0), j.1)
  in-ranked (Texts.prefix k x) r m e = in-ranked x r m e.1
  in-ranked (Texts.returned k x) r m e = let i = in-ranked x r m e.1 in ((e.0, i.0), i.1)
  in-ranked (Texts.between k x y) r m e =
      let i = in-ranked x (k ∷ tokens y r) m.0 e in let j = in-ranked y r m.1 i.1.1 in ((i.1.0, i.0, j.0), j.1)
  in-ranked (Texts.minus k x y) r m e =
      let i = in-ranked x (k ∷ tokens y r) m.1 e in let j = in-ranked y r m.2 i.1.1 in
      ((plus (subst Q m.0 i.1.0), i.0, each-negated k (ranked y) j.0), j.1)
  in-ranked (Texts.minuses k l x y) r m e =
      let i = in-ranked x (k ∷ l ∷ tokens y r) m.1 e in let j = in-ranked y r m.2 i.1.1.1 in
      ((plus (subst Q m.0 i.1.0), i.0, j.0), j.1)
  in-ranked (Texts.choice q c t) r m e =
      let i = in-ranked c (q ∷ tokens t r) m.0 e in let j = in-ranked t r m.1 i.1.1 in ((i.1.0, i.0, j.0), j.1)
  in-ranked (Texts.chosen q k c t f) r m e =
      let i = in-ranked c (q ∷ tokens t (k ∷ tokens f r)) m.0 e in let j = in-ranked t (k ∷ tokens f r) m.1 i.1.1 in
      let n = in-ranked f r m.2 j.1.1 in ((i.1.0, j.1.0, i.0, j.0, n.0), n.1)
  in-ranked (Texts.script x) r m e = in-ranked x r m e
  in-ranked (Texts.line s es x) r m e =
      let i = in-ranked x (s ∷ tokens_before es r) m e in (i.0, (each-before QT es r i.1.1).1)
  in-ranked (Texts.lines x y) r m e =
      let i = in-ranked x (tokens y r) m.0 e in let j = in-ranked y r m.1 i.1 in ((i.0, j.0), j.1)
  in-ranked (Texts.final x) r m e = in-ranked x r m e
