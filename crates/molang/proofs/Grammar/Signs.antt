-- A text whose minuses stand right fits the pass of the prefix operators; and what a binary minus makes of its right operand keeps what is
-- asked of expressions.
use Prim.Native.Nat.{ℕ, suc}
use mathlib.Core.{Path.{◌≡◌, refl, ap, ◌∙◌}, Bool.{false}, List.{List, [], ◌∷◌}, Option.{Option, none, some}}
use lib.Dec.{eqb}
use Rattle.molang.specs.{Operator.{negate, logical_not}, Forest.{Token, Forest, nil, node, bare, renamed, closed_by}}
use Rattle.molang.specs.{Unary.{done, unary}, Grammar.{Text}}
use Rattle.molang.specs.Operator
use Rattle.molang.proofs.Grammar.Shape.{Accessors, top_of, inside_of, first_of, semicolon_of}
use Rattle.molang.proofs.{Grammar.Ranked.{Exp, is_tight, is_closed, Ranked}, Grammar.Returned.{Returnless}}
use Rattle.molang.proofs.{Grammar.Prefixed.{raw, read, last_of, Fits}, Grammar.Views.{shape, prefixed, holds, calling, negated}}
use Rattle.molang.proofs.{Grammar.Signed.{Unsigned, Signed}, Grammar.Prefixes.{list-reads, an_item}, Grammar.Sectioning.{top-number}}
use Rattle.molang.proofs.Grammar.Ranked as Ranks
use Rattle.molang.proofs.Grammar.Prefixed as Prefixes
use Rattle.molang.specs.Grammar as Texts

nothing-done : unary none nil ≡ done false nil
unfolding unary
nothing-done = refl

-- One node by itself.
one-done : (k : Token) (cs kids : Forest) → Unsigned k → unary none cs ≡ done false kids
    → unary none (node k cs nil) ≡ done false (node k kids nil)
unfolding raw read
one-done k cs kids n e = list-reads (Prefixes.item k cs kids) (an_item k cs kids n.0 n.1 e)

-- A base with its accessors.
inside-done : (k : Token) (cs : Forest) (ms : List Token) → Unsigned k → unary none cs ≡ done false cs → Accessors ms
    → unary none (inside_of k cs ms) ≡ done false (inside_of k cs ms)
unfolding inside_of
inside-done k cs [] n e g = e
inside-done k cs (a ∷ ms) n e g =
    inside-done a (node k cs nil) ms (ap (λ (n : ℕ). eqb n negate) g.0, ap (λ (n : ℕ). eqb n logical_not) g.0) (one-done k cs cs n e)
    g.1

fits-holds : (k : Token) (x : Prefixes.Text) (p : Option Token) → Unsigned k → Fits none x → Fits p (holds k x)
unfolding holds
fits-holds k x p n f = an_item k (raw x nil) (read x nil) n.0 n.1 (list-reads x f)

fits-calling : (k o c : Token) (x : Prefixes.Text) (p : Option Token) → Unsigned k → Unsigned o → Fits none x → Fits p (calling k o c x)
unfolding calling closed_by
fits-calling k o c x p n m f =
    an_item k (node (closed_by c o) (raw x nil) nil) (node (closed_by c o) (read x nil) nil) n.0 n.1
    (one-done (closed_by c o) (raw x nil) (read x nil) m (list-reads x f))

-- The accessors of every base are some.
abbrev pub Chained : Text → Type 0
Chained (Texts.operand k) = Unit {0}
Chained (Texts.member b a ms) = Accessors (a ∷ ms)
Chained (Texts.section o c x) = Chained x
Chained (Texts.query k o c x) = Chained x
Chained (Texts.math_call k o c x) = Chained x
Chained (Texts.math_empty k o c) = Unit {0}
Chained (Texts.index k o c x) = Chained x
Chained (Texts.arrow k x y) = Chained x × Chained y
Chained (Texts.prefix k x) = Chained x
Chained (Texts.returned k x) = Chained x
Chained (Texts.between k x y) = Chained x × Chained y
Chained (Texts.minus k x y) = Chained x × Chained y
Chained (Texts.minuses k l x y) = Chained x × Chained y
Chained (Texts.choice q c t) = Chained c × Chained t
Chained (Texts.chosen q k c t e) = Chained c × Chained t × Chained e
Chained (Texts.script x) = Chained x
Chained (Texts.line e es x) = Chained x
Chained (Texts.lines x y) = Chained x × Chained y
Chained (Texts.final x) = Chained x

pub signed-fits : (t : Text) (p : Option Token) → Chained t → Signed p t → Fits p (prefixed t)
unfolding prefixed renamed bare last_of
signed-fits (Texts.operand k) p c s = an_item k nil nil s.0 s.1 nothing-done
signed-fits (Texts.member b a ms) p c s =
    let n = top-number b a ms c in
    an_item (top_of b (a ∷ ms)) (inside_of b nil (a ∷ ms)) (inside_of b nil (a ∷ ms)) (ap (λ (n : ℕ). eqb n negate) n)
    (ap (λ (n : ℕ). eqb n logical_not) n)
    (inside-done b nil (a ∷ ms) s nothing-done c)
signed-fits (Texts.section o k x) p c s = fits-holds (closed_by k o) (prefixed x) p (unfold closed_by in s.0) (signed-fits x none c s.1)
signed-fits (Texts.query k o e x) p c s = fits-calling k o e (prefixed x) p s.0 s.1 (signed-fits x none c s.2)
signed-fits (Texts.math_call k o e x) p c s = fits-calling k o e (prefixed x) p s.0 s.1 (signed-fits x none c s.2)
signed-fits (Texts.math_empty k o e) p c s =
    an_item k (node (closed_by e o) nil nil) (node (closed_by e o) nil nil) s.0.0 s.0.1
    (one-done (closed_by e o) nil nil (unfold closed_by in s.1) nothing-done)
signed-fits (Texts.index k o e x) p c s = fits-holds (renamed Operator.array k) (prefixed x) p (refl, refl) (signed-fits x none c s)
signed-fits (Texts.arrow k x y) p c s =
    fits-holds k (Prefixes.beside (prefixed x) (prefixed y)) p s.0
    (signed-fits x none c.0 s.1, signed-fits y (some (last_of (prefixed x))) c.1 s.2)
signed-fits (Texts.prefix k x) p c s = (s.0, s.1, signed-fits x (some k) c s.2)
signed-fits (Texts.returned k x) p c s = (an_item k nil nil s.0.0 s.0.1 nothing-done, signed-fits x (some k) c s.1)
signed-fits (Texts.between k x y) p c s = (s.0.0, s.0.1, signed-fits x p c.0 s.1, signed-fits y (some k) c.1 s.2)
signed-fits (Texts.minus k x y) p c s = (s.0, s.1, signed-fits x p c.0 s.2, signed-fits y (some k) c.1 s.3)
signed-fits (Texts.minuses k l x y) p c s = (s.0, s.1, s.2, signed-fits x p c.0 s.3, signed-fits y (some l) c.1 s.4)
signed-fits (Texts.choice q d t) p c s = (s.0.0, s.0.1, signed-fits d p c.0 s.1, signed-fits t (some q) c.1 s.2)
signed-fits (Texts.chosen q k d t e) p c s = (
  s.0.0,
  s.0.1,
  signed-fits d p c.0 s.2,
  (s.1.0, s.1.1, signed-fits t (some q) c.1 s.3, signed-fits e (some k) c.2 s.4),
)
signed-fits (Texts.script x) p c s = fits-holds (bare Operator.semicolon (semicolon_of (shape x))) (prefixed x) p (refl, refl)
    (signed-fits x none c s)
signed-fits (Texts.line e es x) p c s = fits-holds (bare Operator.semicolon (first_of (shape x))) (prefixed x) p (refl, refl)
    (signed-fits x none c s)
signed-fits (Texts.lines x y) p c s = (signed-fits x p c.0 s.0, signed-fits y (some (last_of (prefixed x))) c.1 s.1)
signed-fits (Texts.final x) p c s = fits-holds (bare Operator.semicolon (first_of (shape x))) (prefixed x) p (refl, refl)
    (signed-fits x none c s)

-- ---- a binary minus over the first operand

module _ (rank : ℕ → ℕ) (p : ℕ) (unranked : rank negate ≡ 0) where
  pub negated-tight : (m : ℕ) (k : Token) (e : Exp) → is_tight rank m (negated k e) ≡ is_tight rank m e
  unfolding negated is_tight
  negated-tight m k (Ranks.leaf l) = refl
  negated-tight m k (Ranks.over l x) = refl
  negated-tight m k (Ranks.beside x y) = refl
  negated-tight m k (Ranks.between l x y) = refl
  negated-tight m k (Ranks.choice q c t) = refl
  negated-tight m k (Ranks.chosen q l c t e) = refl

  pub negated-closed : (k : Token) (e : Exp) → is_closed rank p (negated k e) ≡ is_closed rank p e
  unfolding negated is_closed
  negated-closed k (Ranks.leaf l) = refl
  negated-closed k (Ranks.over l x) = refl
  negated-closed k (Ranks.beside x y) = refl
  negated-closed k (Ranks.between l x y) = refl
  negated-closed k (Ranks.choice q c t) = refl
  negated-closed k (Ranks.chosen q l c t e) = refl

  pub negated-ranked : (k : Token) (e : Exp) → Ranked rank p e → Ranked rank p (negated k e)
  unfolding negated bare
  negated-ranked k (Ranks.leaf l) g = (unranked, g)
  negated-ranked k (Ranks.over l x) g = (unranked, g)
  negated-ranked k (Ranks.beside x y) g = (negated-ranked k x g.0, g.1)
  negated-ranked k (Ranks.between l x y) g =
      (g.0, g.1, negated-tight (rank l.op) k x ∙ g.2, g.3, negated-ranked k x g.4, g.5)
  negated-ranked k (Ranks.choice q c t) g = (g.0, g.1, negated-tight (suc p) k c ∙ g.2, g.3, negated-ranked k c g.4, g.5)
  negated-ranked k (Ranks.chosen q l c t e) g =
      (g.0, g.1, g.2, g.3, negated-tight (suc p) k c ∙ g.4, g.5, g.6, g.7, negated-ranked k c g.8, g.9, g.10)

pub negated-returnless : (k : Token) (e : Exp) → Returnless e → Returnless (negated k e)
unfolding negated bare
negated-returnless k (Ranks.leaf l) g = (refl, g)
negated-returnless k (Ranks.over l x) g = (refl, g)
negated-returnless k (Ranks.beside x y) g = (negated-returnless k x g.0, g.1)
negated-returnless k (Ranks.between l x y) g = (g.0, negated-returnless k x g.1, g.2)
negated-returnless k (Ranks.choice q c t) g = (g.0, negated-returnless k c g.1, g.2)
negated-returnless k (Ranks.chosen q l c t e) g = (g.0, g.1, negated-returnless k c g.2, g.3, g.4)
