-- The views of a text are of one list: its tokens are the raw form of its shape, and the pointer's level finds and leaves its shape at the
-- stages before and after it.
use Prim.Native.Nat.{ℕ}
use mathlib.Core.{Path.{◌≡◌, refl, ap, sym, ◌∙◌}, Bool.{Bool, true, false}, List.{List, [], ◌∷◌}}
use Rattle.molang.specs.Operator
use Rattle.molang.specs.Forest.{Token, Forest, nil, node, bare, renamed, closed_by, leaves}
use Rattle.molang.specs.Grammar.{Text, operand, member, section, query, math_call, math_empty, index, arrow, prefix, returned, between}
use Rattle.molang.specs.Grammar.{minus, minuses, choice, chosen, script, line, lines, final, tokens_before, tokens}
use Rattle.molang.proofs.Grammar.Shape as Shapes
use Rattle.molang.proofs.Grammar.Shape.{Shape, row, grown, chained, within, ahead, indexed, amid, listed, ended, skipped}
use Rattle.molang.proofs.{Grammar.Shape.{raw, counted}, Grammar.Ranked.{Exp}, Grammar.Prefixed.{read}}
use Rattle.molang.proofs.Grammar.Views.{blanks, shape, over, points, negated, ranked, holds, calling, prefixed}
use Rattle.molang.proofs.{Grammar.Canonical.{Arrows}, Grammar.ShapeForms.{grown-one}}
use Rattle.molang.proofs.Grammar.Ranked as Ranks
use Rattle.molang.proofs.Grammar.Prefixed as Prefixes

-- ---- tokens

row-leaves : (ks r : List Token) → row ks (leaves r) ≡ leaves (tokens_before ks r)
unfolding row tokens_before leaves
row-leaves [] r = refl
row-leaves (k ∷ ks) r = ap (node k nil) (row-leaves ks r)

blank-row : (x : Shape) (es : List Token) (r : Forest) → Shapes.form raw (blanks x es) r ≡ Shapes.form raw x (row es r)
unfolding blanks row Shapes.form skipped
blank-row x [] r = refl
blank-row x (e ∷ es) r = blank-row (Shapes.beside x (Shapes.blank e)) es r

pub raw-tokens : (t : Text) (r : List Token) → Shapes.form raw (shape t) (leaves r) ≡ leaves (tokens t r)
unfolding shape tokens Shapes.form leaves chained within ahead indexed amid listed ended row
raw-tokens (operand k) r = refl
raw-tokens (member b a ms) r = ap (λ (f : Forest). node b nil (node a nil f)) (row-leaves ms r)
raw-tokens (section o c x) r = ap (node o nil) (raw-tokens x (c ∷ r))
raw-tokens (query k o c x) r = ap (λ (f : Forest). node k nil (node o nil f)) (raw-tokens x (c ∷ r))
raw-tokens (math_call k o c x) r = ap (λ (f : Forest). node k nil (node o nil f)) (raw-tokens x (c ∷ r))
raw-tokens (math_empty k o c) r = refl
raw-tokens (index k o c x) r = ap (λ (f : Forest). node k nil (node o nil f)) (raw-tokens x (c ∷ r))
raw-tokens (arrow k x y) r = ap (λ (f : Forest). Shapes.form raw (shape x) (node k nil f)) (raw-tokens y r) ∙ raw-tokens x (k ∷ tokens y r)
raw-tokens (prefix k x) r = ap (node k nil) (raw-tokens x r)
raw-tokens (returned k x) r = ap (node k nil) (raw-tokens x r)
raw-tokens (between k x y) r = ap (λ (f : Forest). Shapes.form raw (shape x) (node k nil f)) (raw-tokens y r)
    ∙ raw-tokens x (k ∷ tokens y r)
raw-tokens (minus k x y) r = ap (λ (f : Forest). Shapes.form raw (shape x) (node k nil f)) (raw-tokens y r) ∙ raw-tokens x (k ∷ tokens y r)
raw-tokens (minuses k l x y) r =
    ap (λ (f : Forest). Shapes.form raw (shape x) (node k nil (node l nil f))) (raw-tokens y r) ∙ raw-tokens x (k ∷ l ∷ tokens y r)
raw-tokens (choice q c t) r = ap (λ (f : Forest). Shapes.form raw (shape c) (node q nil f)) (raw-tokens t r) ∙ raw-tokens c (q ∷ tokens t r)
raw-tokens (chosen q k c t e) r =
    ap (λ (f : Forest). Shapes.form raw (shape c) (node q nil (Shapes.form raw (shape t) (node k nil f)))) (raw-tokens e r)
    ∙ ap (λ (f : Forest). Shapes.form raw (shape c) (node q nil f)) (raw-tokens t (k ∷ tokens e r))
    ∙ raw-tokens c (q ∷ tokens t (k ∷ tokens e r))
raw-tokens (script x) r = raw-tokens x r
raw-tokens (line e es x) r =
    blank-row (Shapes.statement e (shape x)) es (leaves r) ∙ ap (λ (f : Forest). Shapes.form raw (shape x) (node e nil f)) (row-leaves es r)
    ∙ raw-tokens x (e ∷ tokens_before es r)
raw-tokens (lines x y) r = ap (Shapes.form raw (shape x)) (raw-tokens y r) ∙ raw-tokens x (tokens y r)
raw-tokens (final x) r = raw-tokens x r

-- ---- the pointer's level

grown-form : (σ : ℕ → Bool) (e : Exp) (k : Token) (cs : Forest) (ms : List Token) (r : Forest)
    → ((r : Forest) → Ranks.form σ e r ≡ node k cs r)
    → Ranks.form σ (over e ms) r ≡ grown k cs ms r
unfolding over grown
grown-form σ e k cs [] r h = h r
grown-form σ e k cs (a ∷ ms) r h =
    grown-form σ (Ranks.over a e) a (node k cs nil) ms r (λ r. unfold Ranks.form in ap (λ (f : Forest). node a f r) (h nil))

-- The stages before and after the pointer's level.
abbrev pub at_arrow : Bool → Shapes.Stage
at_arrow b = record { members = true; sections = true; calls = true; statements = true; arrays = true; pointers = b; maths = false }

blank-gone : (b : Bool) (x : Shape) (es : List Token) (r : Forest) → Shapes.form (at_arrow b) (blanks x es) r ≡ Shapes.form (at_arrow b) x r
unfolding blanks Shapes.form skipped
blank-gone b x [] r = refl
blank-gone b x (e ∷ es) r = blank-gone b (Shapes.beside x (Shapes.blank e)) es r

amid-same : (b : Bool) (k : Token) (X X' Y Y' : Forest → Forest) (r : Forest) → ((r : Forest) → X r ≡ X' r) → ((r : Forest) → Y r ≡ Y' r)
    → amid b k X Y r ≡ Ranks.amid b k X' Y' r
unfolding amid Ranks.amid
amid-same true k X X' Y Y' r x y = ap (λ (f : Forest). node k f r) (x (Y nil) ∙ ap X' (y nil))
amid-same false k X X' Y Y' r x y = x (node k nil (Y r)) ∙ ap (λ (f : Forest). X' (node k nil f)) (y r)

module _ (b : Bool) (σ : ℕ → Bool) (e : σ Operator.pointer ≡ b) where
  abbrev F : Text → Forest → Forest
  F t r = Shapes.form (at_arrow b) (shape t) r

  abbrev G : Text → Forest → Forest
  G t r = Ranks.form σ (points t) r

  beside-three : (k : Token) (x y : Text) (r : Forest) → ((r : Forest) → F x r ≡ G x r) → ((r : Forest) → F y r ≡ G y r)
      → F x (node k nil (F y r)) ≡ G x (node k nil (G y r))
  beside-three k x y r p q = p (node k nil (F y r)) ∙ ap (λ (f : Forest). G x (node k nil f)) (q r)

  pub form-points : (t : Text) → Arrows t → (r : Forest) → Shapes.form (at_arrow b) (shape t) r ≡ Ranks.form σ (points t) r
  unfolding shape points Shapes.form Ranks.form chained within ahead indexed listed ended grown
  form-points (operand k) g r = refl
  form-points (member c a ms) g r = sym (grown-form σ (Ranks.over a (Ranks.leaf c)) a (node c nil nil) ms r (λ r. refl))
  form-points (section o c x) g r = ap (λ (f : Forest). node (closed_by c o) f r) (form-points x g nil)
  form-points (query k o c x) g r = ap (λ (f : Forest). node k (node (closed_by c o) f nil) r) (form-points x g nil)
  form-points (math_call k o c x) g r = ap (λ (f : Forest). node k nil (node (closed_by c o) f r)) (form-points x g nil)
  form-points (math_empty k o c) g r = refl
  form-points (index k o c x) g r = ap (λ (f : Forest). node (renamed Operator.array k) f r) (form-points x g nil)
  form-points (arrow k x y) g r =
      amid-same b k (F x) (G x) (F y) (G y) r (form-points x g.1) (form-points y g.2)
      ∙ ap (λ (b : Bool). Ranks.amid b k (G x) (G y) r) (sym (ap σ g.0 ∙ e))
  form-points (prefix k x) g r = ap (node k nil) (form-points x g r)
  form-points (returned k x) g r = ap (node k nil) (form-points x g r)
  form-points (between k x y) g r = beside-three k x y r (form-points x g.0) (form-points y g.1)
  form-points (minus k x y) g r = beside-three k x y r (form-points x g.1) (form-points y g.2)
  form-points (minuses k l x y) g r =
      form-points x g.1 (node k nil (node l nil (F y r))) ∙ ap (λ (f : Forest). G x (node k nil (node l nil f))) (form-points y g.2 r)
  form-points (choice q c t) g r = beside-three q c t r (form-points c g.0) (form-points t g.1)
  form-points (chosen q k c t f) g r =
      form-points c g.0 (node q nil (F t (node k nil (F f r))))
      ∙ ap (λ (f : Forest). G c (node q nil f)) (beside-three k t f r (form-points t g.1) (form-points f g.2))
  form-points (script x) g r = ap (λ (f : Forest). node (bare Operator.semicolon (Shapes.semicolon_of (shape x))) f r) (form-points x g nil)
  form-points (line s es x) g r =
      blank-gone b (Shapes.statement s (shape x)) es r
      ∙ ap (λ (f : Forest). node (bare Operator.semicolon (Shapes.first_of (shape x))) f r) (form-points x g nil)
  form-points (lines x y) g r = form-points x g.0 (F y r) ∙ ap (G x) (form-points y g.1 r)
  form-points (final x) g r = ap (λ (f : Forest). node (bare Operator.semicolon (Shapes.first_of (shape x))) f r) (form-points x g nil)

-- ---- the pass of the prefix operators

counted-gone : (x : Shape) (es : List Token) (r : Forest) → Shapes.form counted (blanks x es) r ≡ Shapes.form counted x r
unfolding blanks Shapes.form skipped
counted-gone x [] r = refl
counted-gone x (e ∷ es) r = counted-gone (Shapes.beside x (Shapes.blank e)) es r

between-three : (k : Token) (x y : Text) (r : Forest) → ((r : Forest) → Shapes.form counted (shape x) r ≡ Prefixes.raw (prefixed x) r)
    → ((r : Forest) → Shapes.form counted (shape y) r ≡ Prefixes.raw (prefixed y) r)
    → Shapes.form counted (shape x) (node k nil (Shapes.form counted (shape y) r))
    ≡ Prefixes.raw (prefixed x) (node k nil (Prefixes.raw (prefixed y) r))
between-three k x y r p q = p (node k nil (Shapes.form counted (shape y) r))
    ∙ ap (λ (f : Forest). Prefixes.raw (prefixed x) (node k nil f)) (q r)

-- What the pass finds.
pub counted-raw : (t : Text) (r : Forest) → Shapes.form counted (shape t) r ≡ Prefixes.raw (prefixed t) r
unfolding shape prefixed Shapes.form Prefixes.raw holds calling chained within ahead indexed listed ended amid
counted-raw (operand k) r = refl
counted-raw (member b a ms) r = grown-one b nil (a ∷ ms) r
counted-raw (section o c x) r = ap (λ (f : Forest). node (closed_by c o) f r) (counted-raw x nil)
counted-raw (query k o c x) r = ap (λ (f : Forest). node k (node (closed_by c o) f nil) r) (counted-raw x nil)
counted-raw (math_call k o c x) r = ap (λ (f : Forest). node k (node (closed_by c o) f nil) r) (counted-raw x nil)
counted-raw (math_empty k o c) r = refl
counted-raw (index k o c x) r = ap (λ (f : Forest). node (renamed Operator.array k) f r) (counted-raw x nil)
counted-raw (arrow k x y) r = ap (λ (f : Forest). node k f r)
    (counted-raw x (Shapes.form counted (shape y) nil) ∙ ap (Prefixes.raw (prefixed x)) (counted-raw y nil))
counted-raw (prefix k x) r = ap (node k nil) (counted-raw x r)
counted-raw (returned k x) r = ap (node k nil) (counted-raw x r)
counted-raw (between k x y) r = between-three k x y r (counted-raw x) (counted-raw y)
counted-raw (minus k x y) r = between-three k x y r (counted-raw x) (counted-raw y)
counted-raw (minuses k l x y) r =
    counted-raw x (node k nil (node l nil (Shapes.form counted (shape y) r)))
    ∙ ap (λ (f : Forest). Prefixes.raw (prefixed x) (node k nil (node l nil f))) (counted-raw y r)
counted-raw (choice q c t) r = between-three q c t r (counted-raw c) (counted-raw t)
counted-raw (chosen q k c t e) r =
    counted-raw c (node q nil (Shapes.form counted (shape t) (node k nil (Shapes.form counted (shape e) r))))
    ∙ ap (λ (f : Forest). Prefixes.raw (prefixed c) (node q nil f)) (between-three k t e r (counted-raw t) (counted-raw e))
counted-raw (script x) r = ap (λ (f : Forest). node (bare Operator.semicolon (Shapes.semicolon_of (shape x))) f r) (counted-raw x nil)
counted-raw (line e es x) r =
    counted-gone (Shapes.statement e (shape x)) es r
    ∙ ap (λ (f : Forest). node (bare Operator.semicolon (Shapes.first_of (shape x))) f r) (counted-raw x nil)
counted-raw (lines x y) r = counted-raw x (Shapes.form counted (shape y) r) ∙ ap (Prefixes.raw (prefixed x)) (counted-raw y r)
counted-raw (final x) r = ap (λ (f : Forest). node (bare Operator.semicolon (Shapes.first_of (shape x))) f r) (counted-raw x nil)

-- Nothing is folded yet.
abbrev pub nothing_yet : ℕ → Bool
nothing_yet n = false

negated-form : (k : Token) (e : Exp) (r : Forest) → Prefixes.negated k (Ranks.form nothing_yet e r) ≡ Ranks.form nothing_yet (negated k e) r
unfolding Ranks.form Ranks.amid negated Prefixes.negated
negated-form k (Ranks.leaf l) r = refl
negated-form k (Ranks.over l x) r = refl
negated-form k (Ranks.beside x y) r = negated-form k x (Ranks.form nothing_yet y r)
negated-form k (Ranks.between l x y) r = negated-form k x (node l nil (Ranks.form nothing_yet y r))
negated-form k (Ranks.choice q c t) r = negated-form k c (node q nil (Ranks.form nothing_yet t r))
negated-form k (Ranks.chosen q l c t e) r = negated-form k c (node q nil (Ranks.form nothing_yet t (node l nil (Ranks.form nothing_yet e r))))

read-three : (k : Token) (x y : Text) (r : Forest) → ((r : Forest) → read (prefixed x) r ≡ Ranks.form nothing_yet (ranked x) r)
    → ((r : Forest) → read (prefixed y) r ≡ Ranks.form nothing_yet (ranked y) r)
    → read (prefixed x) (node k nil (read (prefixed y) r))
    ≡ Ranks.form nothing_yet (ranked x) (node k nil (Ranks.form nothing_yet (ranked y) r))
read-three k x y r p q = p (node k nil (read (prefixed y) r)) ∙ ap (λ (f : Forest). Ranks.form nothing_yet (ranked x) (node k nil f)) (q r)

-- What it leaves.
pub read-ranked : (t : Text) (r : Forest) → read (prefixed t) r ≡ Ranks.form nothing_yet (ranked t) r
unfolding prefixed ranked read Ranks.form Ranks.amid holds calling
read-ranked (operand k) r = refl
read-ranked (member b a ms) r =
    sym (grown-one b nil (a ∷ ms) r) ∙ sym (grown-form nothing_yet (Ranks.over a (Ranks.leaf b)) a (node b nil nil) ms r
    (λ r. unfold Ranks.form in refl) ∙ (unfold grown in refl))
read-ranked (section o c x) r = ap (λ (f : Forest). node (closed_by c o) f r) (read-ranked x nil)
read-ranked (query k o c x) r = ap (λ (f : Forest). node k (node (closed_by c o) f nil) r) (read-ranked x nil)
read-ranked (math_call k o c x) r = ap (λ (f : Forest). node k (node (closed_by c o) f nil) r) (read-ranked x nil)
read-ranked (math_empty k o c) r = refl
read-ranked (index k o c x) r = ap (λ (f : Forest). node (renamed Operator.array k) f r) (read-ranked x nil)
read-ranked (arrow k x y) r = ap (λ (f : Forest). node k f r)
    (read-ranked x (read (prefixed y) nil) ∙ ap (Ranks.form nothing_yet (ranked x)) (read-ranked y nil))
read-ranked (prefix k x) r = ap (λ (f : Forest). node k f r) (read-ranked x nil)
read-ranked (returned k x) r = ap (node k nil) (read-ranked x r)
read-ranked (between k x y) r = read-three k x y r (read-ranked x) (read-ranked y)
read-ranked (minus k x y) r =
    read-ranked x (node (renamed Operator.add k) nil (Prefixes.negated k (read (prefixed y) r)))
    ∙ ap (λ (f : Forest). Ranks.form nothing_yet (ranked x) (node (renamed Operator.add k) nil f))
    (ap (Prefixes.negated k) (read-ranked y r) ∙ negated-form k (ranked y) r)
read-ranked (minuses k l x y) r = read-three (renamed Operator.add k) x y r (read-ranked x) (read-ranked y)
read-ranked (choice q c t) r = read-three q c t r (read-ranked c) (read-ranked t)
read-ranked (chosen q k c t e) r =
    read-ranked c (node q nil (read (prefixed t) (node k nil (read (prefixed e) r))))
    ∙ ap (λ (f : Forest). Ranks.form nothing_yet (ranked c) (node q nil f)) (read-three k t e r (read-ranked t) (read-ranked e))
read-ranked (script x) r = ap (λ (f : Forest). node (bare Operator.semicolon (Shapes.semicolon_of (shape x))) f r) (read-ranked x nil)
read-ranked (line e es x) r = ap (λ (f : Forest). node (bare Operator.semicolon (Shapes.first_of (shape x))) f r) (read-ranked x nil)
read-ranked (lines x y) r = read-ranked x (read (prefixed y) r) ∙ ap (Ranks.form nothing_yet (ranked x)) (read-ranked y r)
read-ranked (final x) r = ap (λ (f : Forest). node (bare Operator.semicolon (Shapes.first_of (shape x))) f r) (read-ranked x nil)
