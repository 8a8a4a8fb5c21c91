-- THE RETURN PASS: a `return` takes what follows it.
use Prim.Native.Nat.{ℕ}
use mathlib.Core.{Path.{◌≡◌, refl, ap, sym, ◌∙◌}, Bool.{Bool, true, false, false≢true}}
use lib.Dec.{eqb, leb}
use Rattle.molang.specs.Operator
use Rattle.molang.specs.{Forest.{Token, Forest, nil, node, turned_onto, in_order}, Message.{ok}}
use Rattle.molang.specs.Level.{Level, walk, through, Gathered, gathered, waiting, nothing}
use Rattle.molang.specs.Unary.{return_step, return_resume, return_finish, return_level}
use Rattle.molang.proofs.Forests.{Turns}
use Rattle.molang.proofs.Grammar.Walk.{walk-on, Gathers, Carries, Passes, carry-both, carry-node, carry-token, carry-whole}
use Rattle.molang.proofs.Grammar.Ranked.{Exp, leaf, over, beside, between, choice, chosen, is_tight, Ranked, amid, form}
use Rattle.molang.proofs.Grammar.Returned.{is_return_leaf, label_of, returning, returned, Returnless, Once, Returning}

abbrev L : Level Gathered
L = return_level

abbrev anything : Forest → Bool
anything r = true

abbrev Carried : (Forest → Forest) → (Forest → Forest) → Type 0
Carried = Carries L gathered anything

gathers : Gathers L gathered
unfolding walk return_level return_step return_resume return_finish in_order turned_onto
gathers = record { enters = λ d k c cs r. refl; resumes = λ d k kids. refl; begins = refl }

ends : (d : Forest) → L.finish (gathered d) ≡ ok (in_order d)
unfolding return_level return_finish
ends d = refl

whole : (F G : Forest → Forest) → Carried F G → walk L (gathered nil) (F nil) ≡ ok (G nil)
whole F G c = carry-whole L gathered anything ends refl F G c

passes : (k : Token) → eqb k.op Operator.return ≡ false → Passes L gathered anything k
unfolding return_level return_step
passes k q d = rw (q, return_step) refl

carry : (k : Token) (cs cs' : Forest) → eqb k.op Operator.return ≡ false → walk L (gathered nil) cs ≡ ok cs'
    → Carried (node k cs) (node k cs')
carry k cs cs' q e = carry-node L gathered anything gathers k cs cs' (passes k q) e

both : (X X' Y Y' : Forest → Forest) → Turns X' → Carried X X' → Carried Y Y' → Carried (λ r. X (Y r)) (λ r. X' (Y' r))
both X X' Y Y' t x y = carry-both L gathered anything X X' Y Y' x y t (λ r f. refl)

between-walk : (b : Bool) (k : Token) (X X' Y Y' : Forest → Forest) → eqb k.op Operator.return ≡ false → Turns X' → Carried X X'
    → Carried Y Y'
    → Carried (amid b k X Y) (amid b k X' Y')
unfolding amid
between-walk true k X X' Y Y' q t x y = carry k (X (Y nil)) (X' (Y' nil)) q (whole (λ r. X (Y r)) (λ r. X' (Y' r)) (both X X' Y Y' t x y))
between-walk false k X X' Y Y' q t x y =
    both X X' (λ r. node k nil (Y r)) (λ r. node k nil (Y' r)) t x (carry-token L gathered anything k Y Y' (passes k q) y)

-- ---- turning round

turned-amid : (b : Bool) (k : Token) (X Y : Forest → Forest) → Turns X → Turns Y → Turns (amid b k X Y)
unfolding amid turned_onto
turned-amid true k X Y x y r d = refl
turned-amid false k X Y x y r d = x (node k nil (Y r)) d ∙ y r _ ∙ ap (turned_onto r) (sym (x (node k nil (Y nil)) d))

turned-returning : (b : Bool) (k : Token) (X Y : Forest → Forest) → Turns X → Turns Y → Turns (returning b k X Y)
unfolding returning turned_onto
turned-returning true k X Y x y r d = refl
turned-returning false k X Y x y r d = x (Y r) d ∙ y r _ ∙ ap (turned_onto r) (sym (x (Y nil) d))

turned-returned : (σ : ℕ → Bool) (e : Exp) → Turns (returned σ e)
unfolding returned turned_onto
turned-returned σ (leaf k) r d = refl
turned-returned σ (over k x) r d = refl
turned-returned σ (beside x y) r d = turned-returning (is_return_leaf x) (label_of x) (returned σ x) (returned σ y) (turned-returned σ x)
    (turned-returned σ y) r d
turned-returned σ (between k x y) r d = turned-amid (σ k.op) k (returned σ x) (returned σ y) (turned-returned σ x) (turned-returned σ y)
    r d
turned-returned σ (choice q c t) r d = turned-amid (σ q.op) q (returned σ c) (returned σ t) (turned-returned σ c) (turned-returned σ t)
    r d
turned-returned σ (chosen q k c t e) r d =
    turned-amid (σ q.op) q (returned σ c) (amid (σ k.op) k (returned σ t) (returned σ e)) (turned-returned σ c)
    (turned-amid (σ k.op) k (returned σ t) (returned σ e) (turned-returned σ t) (turned-returned σ e)) r d

-- ---- where there is none

amid-same : (b : Bool) (k : Token) (X X' Y Y' : Forest → Forest) → ((r : Forest) → X r ≡ X' r) → ((r : Forest) → Y r ≡ Y' r) → (r : Forest)
    → amid b k X Y r ≡ amid b k X' Y' r
unfolding amid
amid-same true k X X' Y Y' x y r = ap (λ (f : Forest). node k f r) (x (Y nil) ∙ ap X' (y nil))
amid-same false k X X' Y Y' x y r = x (node k nil (Y r)) ∙ ap (λ (f : Forest). X' (node k nil f)) (y r)

no-leaf : (x : Exp) → Returnless x → is_return_leaf x ≡ false
unfolding is_return_leaf
no-leaf (leaf k) h = h
no-leaf (over k x) h = refl
no-leaf (beside x y) h = refl
no-leaf (between k x y) h = refl
no-leaf (choice q c t) h = refl
no-leaf (chosen q k c t e) h = refl

pub same : (σ : ℕ → Bool) (e : Exp) → Returnless e → (r : Forest) → form σ e r ≡ returned σ e r
unfolding form returned returning
same σ (leaf k) h r = refl
same σ (over k x) h r = ap (λ (f : Forest). node k f r) (same σ x h.1 nil)
same σ (beside x y) h r =
    same σ x h.0 (form σ y r) ∙ ap (returned σ x) (same σ y h.1 r)
    ∙ ap (λ (b : Bool). returning b (label_of x) (returned σ x) (returned σ y) r) (sym (no-leaf x h.0))
same σ (between k x y) h r = amid-same (σ k.op) k (form σ x) (returned σ x) (form σ y) (returned σ y) (same σ x h.1)
    (same σ y h.2) r
same σ (choice q c t) h r = amid-same (σ q.op) q (form σ c) (returned σ c) (form σ t) (returned σ t) (same σ c h.1) (same σ t h.2)
    r
same σ (chosen q k c t e) h r =
    amid-same (σ q.op) q (form σ c) (returned σ c) (amid (σ k.op) k (form σ t) (form σ e))
    (amid (σ k.op) k (returned σ t) (returned σ e)) (same σ c h.2)
    (amid-same (σ k.op) k (form σ t) (returned σ t) (form σ e) (returned σ e) (same σ t h.3) (same σ e h.4)) r

-- ---- one tree

pub record Solid (F : Forest → Forest) : Type 0 where
  pub label : Token
  pub inside : Forest
  pub becomes : (r : Forest) → F r ≡ node label inside r

solid-amid : (b : Bool) (k : Token) (X Y : Forest → Forest) → b ≡ true → Solid (amid b k X Y)
unfolding amid
solid-amid true k X Y h = record { label = k; inside = X (Y nil); becomes = λ r. refl }
solid-amid false k X Y h = absurd (false≢true h)

module _ (rank : ℕ → ℕ) (p : ℕ) where
  abbrev pub folded : ℕ → Bool
  folded n = leb 1 (rank n)

  pub solid : (e : Exp) → Ranked rank p e → is_tight rank 1 e ≡ true → Solid (form folded e)
  unfolding form is_tight
  solid (leaf k) g h = record { label = k; inside = nil; becomes = λ r. refl }
  solid (over k x) g h = record { label = k; inside = form folded x nil; becomes = λ r. refl }
  solid (beside x y) g h = absurd (false≢true h)
  solid (between k x y) g h = solid-amid (folded k.op) k (form folded x) (form folded y) h
  solid (choice q c t) g h = solid-amid (folded q.op) q (form folded c) (form folded t) h
  solid (chosen q k c t e) g h = solid-amid (folded q.op) q (form folded c) (amid (folded k.op) k (form folded t) (form folded e)) h

  -- A `return` takes the tree after it.
  return-walk : (k : Token) (Y Y' : Forest → Forest) → eqb k.op Operator.return ≡ true → Solid Y → ((r : Forest) → Y r ≡ Y' r)
      → Carried (λ r. node k nil (Y r)) (λ r. node k (Y' nil) r)
  unfolding return_level turned_onto
  return-walk k Y Y' q s e d r f =
      walk-on L (gathered d) (waiting d k) k nil (Y r) (unfold return_step in rw (q, return_step) refl)
      ∙ ap (walk L (waiting d k)) (s.becomes r)
      ∙ walk-on L (waiting d k) (gathered (node k (node s.label s.inside nil) d)) s.label s.inside r (unfold return_step in refl)
      ∙ ap (λ (t : Forest). walk L (gathered (node k t d)) r) (sym (s.becomes nil) ∙ e nil)

  beside-walk : (x y : Exp) → Ranked rank p (beside x y) → (b : Bool) → is_return_leaf x ≡ b
      → Once b rank y (Carried (form folded x) (returned folded x))
      (Carried (form folded y) (returned folded y))
      → Carried (λ r. form folded x (form folded y r)) (returning b (label_of x) (returned folded x) (returned folded y))
  unfolding returning is_return_leaf form label_of
  beside-walk (leaf k) y g true h o = return-walk k (form folded y) (returned folded y) h (solid y g.1 o.0) (same folded y o.1)
  beside-walk (over k x) y g true h o = absurd (false≢true h)
  beside-walk (beside a b) y g true h o = absurd (false≢true h)
  beside-walk (between k a b) y g true h o = absurd (false≢true h)
  beside-walk (choice q a b) y g true h o = absurd (false≢true h)
  beside-walk (chosen q k a b c) y g true h o = absurd (false≢true h)
  beside-walk x y g false h o = both (form folded x) (returned folded x) (form folded y) (returned folded y) (turned-returned folded x)
      o.0 o.1

  lift : (b : Bool) (y : Exp) (A B A' B' : Type 0) → Once b rank y A B → (A → A') → (B → B') → Once b rank y A' B'
  lift true y A B A' B' o f g = o
  lift false y A B A' B' o f g = (f o.0, g o.1)

  reads : (e : Exp) → Ranked rank p e → Returning rank e → Carried (form folded e) (returned folded e)
  unfolding form returned
  reads (leaf k) g h = carry k nil nil h gathers.begins
  reads (over k x) g h = carry k (form folded x nil) (returned folded x nil) h.0
      (whole (form folded x) (returned folded x) (reads x g.1 h.1))
  reads (beside x y) g h =
      beside-walk x y g (is_return_leaf x) refl
      (lift (is_return_leaf x) y (Returning rank x) (Returning rank y) (Carried (form folded x) (returned folded x))
      (Carried (form folded y) (returned folded y)) h
      (λ a. reads x g.0 a) (λ b. reads y g.1 b))
  reads (between k x y) g h =
      between-walk (folded k.op) k (form folded x) (returned folded x) (form folded y) (returned folded y) h.0
      (turned-returned folded x)
      (reads x g.4 h.1) (reads y g.5 h.2)
  reads (choice q c t) g h =
      between-walk (folded q.op) q (form folded c) (returned folded c) (form folded t) (returned folded t) h.0
      (turned-returned folded c)
      (reads c g.4 h.1) (reads t g.5 h.2)
  reads (chosen q k c t e) g h =
      between-walk (folded q.op) q (form folded c) (returned folded c) (amid (folded k.op) k (form folded t) (form folded e))
      (amid (folded k.op) k (returned folded t) (returned folded e)) h.0 (turned-returned folded c) (reads c g.8 h.2)
      (between-walk (folded k.op) k (form folded t) (returned folded t) (form folded e) (returned folded e) h.1
      (turned-returned folded t)
      (reads t g.9 h.3) (reads e g.10 h.4))

  -- THE PASS over a whole list.
  pub return-pass : (e : Exp) → Ranked rank p e → Returning rank e → through return_level (form folded e nil) ≡ ok (returned folded e nil)
  unfolding through return_level nothing
  return-pass e g h = whole (form folded e) (returned folded e) (reads e g h)
