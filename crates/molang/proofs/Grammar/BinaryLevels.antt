-- THE BINARY LEVELS: the level of rank j takes the list in which all operators of higher ranks are folded to the one in which those of rank
-- j
-- are folded too, for every ranked expression.
use Prim.Native.Nat.{ℕ, suc, ◌<◌}
use mathlib.Core.{Path.{◌≡◌, refl, ap, sym, ◌∙◌}, Bool.{Bool, true, false, false≢true}, List.{List}, Option.{none}}
use native.Mathlib.Omega.{arith}
use lib.Dec.{eqb, leb}
use borrow.Author.Tests.{eqb-true, eq-eqb, ne_eqb, leb-true, leb-false}
use Rattle.molang.specs.{Operator.{is_one_of}, Forest.{Token, Forest, nil, node, turned_onto, in_order}, Message.{ok}}
use Rattle.molang.specs.Level.{Level, walk, Gathered, gathered, waiting}
use Rattle.molang.specs.Binary.{first_leaf, unfolded, joined, operator_after, binary_step, binary_resume, binary_finish, binary_level}
use Rattle.molang.proofs.{Forests.{Turns}}
use Rattle.molang.proofs.Grammar.Walk.{walk-on, walk-into, Gathers, Carries, Passes, carry-both, carry-node, carry-token}
use Rattle.molang.proofs.Grammar.Walk.{carry-whole}
use Rattle.molang.proofs.Grammar.Ranked.{Exp, leaf, over, beside, between, choice, chosen, is_tight, Ranked, amid, form}

-- ---- turning round

turned-amid : (b : Bool) (k : Token) (X Y : Forest → Forest) → Turns X → Turns Y → Turns (amid b k X Y)
unfolding amid turned_onto
turned-amid true k X Y x y r d = refl
turned-amid false k X Y x y r d = x (node k nil (Y r)) d ∙ y r _ ∙ ap (turned_onto r) (sym (x (node k nil (Y nil)) d))

turned-chosen : (a b : Bool) (q k : Token) (C T E : Forest → Forest) → Turns C → Turns T → Turns E → Turns (amid a q C (amid b k T E))
turned-chosen a b q k C T E c t e = turned-amid a q C (amid b k T E) c (turned-amid b k T E t e)

pub turned-form : (σ : ℕ → Bool) (e : Exp) → Turns (form σ e)
unfolding form turned_onto
turned-form σ (leaf k) r d = refl
turned-form σ (over k x) r d = refl
turned-form σ (beside x y) r d = turned-form σ x (form σ y r) d ∙ turned-form σ y r _
    ∙ ap (turned_onto r) (sym (turned-form σ x (form σ y nil) d))
turned-form σ (between k x y) r d = turned-amid (σ k.op) k (form σ x) (form σ y) (turned-form σ x) (turned-form σ y) r d
turned-form σ (choice q c t) r d = turned-amid (σ q.op) q (form σ c) (form σ t) (turned-form σ c) (turned-form σ t) r d
turned-form σ (chosen q k c t e) r d =
    turned-chosen (σ q.op) (σ k.op) q k (form σ c) (form σ t) (form σ e) (turned-form σ c) (turned-form σ t) (turned-form σ e) r d

-- ---- a level

-- The level of rank j: its operators are those of that rank, and no conditional that pairs to the right is among them.
pub record OfRank (rank : ℕ → ℕ) (p j : ℕ) (ops : List ℕ) : Type 0 where
  pub positive : 0 < j
  pub told : (n : ℕ) → is_one_of ops n ≡ eqb (rank n) j
  pub apart : p ≡ j → ⊥

module _ (rank : ℕ → ℕ) (p j : ℕ) (ops : List ℕ) (w : OfRank rank p j ops) where
  -- Folded before the level, and after it.
  abbrev pub σ : ℕ → Bool
  σ n = leb (suc j) (rank n)

  abbrev pub σ' : ℕ → Bool
  σ' n = leb j (rank n)

  abbrev level : Level Gathered
  level = binary_level ops

  abbrev anything : Forest → Bool
  anything r = true

  abbrev Carried : (Forest → Forest) → (Forest → Forest) → Type 0
  Carried = Carries level gathered anything

  Clean : (Forest → Forest) → Type 0
  Clean G = (r : Forest) → first_leaf ops (G r) ≡ first_leaf ops r

  record After (G : Forest → Forest) : Type 0 where
    label : Token
    inside : Forest
    becomes : (r : Forest) → G r ≡ node label inside r
    clean : first_leaf ops inside ≡ none

  record Single (F G : Forest → Forest) : Type 0 where
    after : After G
    before : Forest
    was : (r : Forest) → F r ≡ node after.label before r
    walked : walk level (gathered nil) before ≡ ok after.inside

  gathers : Gathers level gathered
  unfolding walk binary_level binary_step binary_resume binary_finish in_order turned_onto
  gathers = record { enters = λ d k c cs r. refl; resumes = λ d k kids. refl; begins = refl }

  ends : (d : Forest) → level.finish (gathered d) ≡ ok (in_order d)
  unfolding binary_level binary_finish
  ends d = refl

  whole : (F G : Forest → Forest) → Carried F G → walk level (gathered nil) (F nil) ≡ ok (G nil)
  whole F G c = carry-whole level gathered anything ends refl F G c

  passes : (k : Token) → is_one_of ops k.op ≡ false → Passes level gathered anything k
  unfolding binary_level binary_step
  passes k q d = rw (q, binary_step) refl

  carry : (k : Token) (cs cs' : Forest) → is_one_of ops k.op ≡ false → walk level (gathered nil) cs ≡ ok cs'
      → Carried (node k cs) (node k cs')
  carry k cs cs' q e = carry-node level gathered anything gathers k cs cs' (passes k q) e

  -- An operator of the level takes the node before it and the node after it.
  taken : (d : Forest) (l : Token) (ls : Forest) (k m : Token) (ms ms' r : Forest) → first_leaf ops ls ≡ none
      → walk level (gathered nil) ms ≡ ok ms'
      → walk level (waiting (node l ls d) k) (node m ms r) ≡ walk level (gathered (node k (node l ls (node m ms' nil)) d)) r
  unfolding binary_level binary_step binary_resume binary_finish unfolded joined walk in_order turned_onto
  taken d l ls k m nil ms' r c e =
      walk-on level (waiting (node l ls d) k) (gathered (joined (node l ls d) k m nil)) m nil r (rw (c, binary_step) refl)
      ∙ ap (λ (c : Forest). walk level (gathered (node k (node l ls (node m c nil)) d)) r) (let n : ok nil ≡ ok ms' = e in cc)
  taken d l ls k m (node c cs rest) ms' r n e =
      walk-into level (waiting (node l ls d) k) (waiting (node l ls d) k) (gathered nil) m (node c cs rest) ms' r (rw (n, binary_step) refl)
      e

  fold : (k : Token) (X X' Y Y' : Forest → Forest) → is_one_of ops k.op ≡ true → Carried X X' → After X' → Single Y Y'
      → Carried (amid false k X Y) (amid true k X' Y')
  unfolding amid turned_onto binary_level binary_step operator_after
  fold k X X' Y Y' q x a y d r f =
      let l = a.label in let ls = a.inside in let m = y.after.label in let ms' = y.after.inside in
      x d (node k nil (Y r)) refl
      ∙ ap (λ (t : Forest). walk level (gathered (turned_onto t d)) (node k nil (Y r))) (a.becomes nil)
      ∙ walk-on level (gathered (node l ls d)) (waiting (node l ls d) k) k nil (Y r) (rw (q, binary_step) refl)
      ∙ ap (walk level (waiting (node l ls d) k)) (y.was r)
      ∙ taken d l ls k m y.before ms' r a.clean y.walked
      ∙ ap (λ (t : Forest). walk level (gathered (node k t d)) r) (sym (a.becomes (Y' nil) ∙ ap (node l ls) (y.after.becomes nil)))

  both : (X X' Y Y' : Forest → Forest) → Carried X X' → Carried Y Y' → Turns X' → Carried (λ r. X (Y r)) (λ r. X' (Y' r))
  both X X' Y Y' x y t = carry-both level gathered anything X X' Y Y' x y t (λ r f. refl)

  -- ---- no operator of the level is left as a leaf

  skip : (k : Token) (cs r : Forest) → is_one_of ops k.op ≡ false → first_leaf ops cs ≡ none → first_leaf ops (node k cs r) ≡ first_leaf ops r
  unfolding first_leaf
  skip k nil r q c = rw (q, first_leaf) refl
  skip k (node c cs rest) r q n = rw (n, first_leaf) refl

  skip-node : (k c : Token) (cs rest r : Forest) → first_leaf ops (node c cs rest) ≡ none
      → first_leaf ops (node k (node c cs rest) r) ≡ first_leaf ops r
  unfolding first_leaf
  skip-node k c cs rest r n = rw (n, first_leaf) refl

  none_left : first_leaf ops nil ≡ none
  unfolding first_leaf
  none_left = refl

  -- ---- what the level makes of a list

  -- The list F becomes G: one node where `after`, and it was one before where `single`.
  record Folds (F G : Forest → Forest) (is_after is_single : Bool) : Type 0 where
    carried : Carried F G
    clean : Clean G
    after : is_after ≡ true → After G
    single : is_single ≡ true → Single F G

  abbrev Folded : Exp → Type 0
  Folded e = Folds (form σ e) (form σ' e) (is_tight rank j e) (is_tight rank (suc j) e)

  other : (k : Token) → rank k.op ≡ 0 → is_one_of ops k.op ≡ false
  other k z = w.told k.op ∙ ne_eqb (rank k.op) j (λ q. let p = w.positive in omega (arith, z, q))

  -- A node that is no operator of the level.
  folds-node : (k : Token) (x x' : Forest) (b : Bool) → is_one_of ops k.op ≡ false → walk level (gathered nil) x ≡ ok x'
      → first_leaf ops x' ≡ none
      → Folds (node k x) (node k x') true b
  unfolding Clean
  folds-node k x x' b q e c =
      let a : After (node k x') = record { label = k; inside = x'; becomes = λ r. refl; clean = c } in
      record {
        carried = carry k x x' q e;
        clean = λ r. skip k x' r q c;
        after = λ h. a;
        single = λ h. record { after = a; before = x; was = λ r. refl; walked = e };
      }

  module _ (k : Token) (X X' Y Y' : Forest → Forest) (x : Carried X X') (t : Turns X') (y : Carried Y Y') (c : Clean X') (d : Clean Y')
    where
      inside-clean : first_leaf ops (X' (Y' nil)) ≡ none
      unfolding Clean
      inside-clean = c (Y' nil) ∙ d nil ∙ none_left

      -- Folded before: the level goes through the two operands.
      folds-tighter : is_one_of ops k.op ≡ false → Folds (amid true k X Y) (amid true k X' Y') true true
      unfolding amid
      folds-tighter q = folds-node k (X (Y nil)) (X' (Y' nil)) true q (whole (λ r. X (Y r)) (λ r. X' (Y' r)) (both X X' Y Y' x y t))
          inside-clean

      -- Folded by the level.
      folds-now : is_one_of ops k.op ≡ true → After X' → Single Y Y' → Folds (amid false k X Y) (amid true k X' Y') true false
      unfolding amid Clean fold
      folds-now q a s =
          let inner : first_leaf ops (node a.label a.inside (Y' nil)) ≡ none = sym (ap (first_leaf ops) (a.becomes (Y' nil)))
          ∙ inside-clean in
          record {
            carried = fold k X X' Y Y' q x a s;
            clean = λ r. ap (λ (f : Forest). first_leaf ops (node k f r)) (a.becomes (Y' nil))
                ∙ skip-node k a.label a.inside (Y' nil) r inner;
            after = λ h. record { label = k; inside = X' (Y' nil); becomes = λ r. refl; clean = inside-clean };
            single = λ h. absurd (false≢true h);
          }

      -- Still flat.
      folds-later : is_one_of ops k.op ≡ false → Folds (amid false k X Y) (amid false k X' Y') false false
      unfolding amid Clean
      folds-later q =
          record {
            carried = both X X' (λ r. node k nil (Y r)) (λ r. node k nil (Y' r)) x
                (carry-token level gathered anything k Y Y' (passes k q) y) t;
            clean = λ r. c (node k nil (Y' r)) ∙ skip k nil (Y' r) q none_left ∙ d r;
            after = λ h. absurd (false≢true h);
            single = λ h. absurd (false≢true h);
          }

      folds-amid : (a b : Bool) → leb (suc j) (rank k.op) ≡ a → leb j (rank k.op) ≡ b → (eqb (rank k.op) j ≡ true → After X')
          → (eqb (rank k.op) j ≡ true → Single Y Y') → Folds (amid a k X Y) (amid b k X' Y') b a
      folds-amid true true p q a s = folds-tighter
          (w.told k.op ∙ ne_eqb (rank k.op) j (λ e. let l = leb-true (suc j) (rank k.op) p in omega (arith, l, e)))
      folds-amid true false p q a s =
          absurd (let l = leb-true (suc j) (rank k.op) p in let m = leb-false j (rank k.op) q in omega (arith, l, m))
      folds-amid false true p q a s =
          let e : eqb (rank k.op) j ≡ true = eq-eqb (rank k.op) j
          (let l = leb-false (suc j) (rank k.op) p in let m = leb-true j (rank k.op) q in omega (arith, l, m)) in
          folds-now (w.told k.op ∙ e) (a e) (s e)
      folds-amid false false p q a s = folds-later
          (w.told k.op ∙ ne_eqb (rank k.op) j (λ e. let m = leb-false j (rank k.op) q in omega (arith, m, e)))

  folded-over : (k : Token) (x : Exp) → rank k.op ≡ 0 → Folded x → Folded (over k x)
  unfolding form is_tight Clean
  folded-over k x z i =
      folds-node k (form σ x nil) (form σ' x nil) true (other k z) (whole (form σ x) (form σ' x) i.carried) (i.clean nil ∙ none_left)

  folded-beside : (x y : Exp) → Folded x → Folded y → Folded (beside x y)
  unfolding form is_tight Clean
  folded-beside x y i n =
      record {
        carried = both (form σ x) (form σ' x) (form σ y) (form σ' y) i.carried n.carried (turned-form σ' x);
        clean = λ r. i.clean (form σ' y r) ∙ n.clean r;
        after = λ h. absurd (false≢true h);
        single = λ h. absurd (false≢true h);
      }

  folded-between : (k : Token) (x y : Exp) → is_tight rank (rank k.op) x ≡ true → is_tight rank (suc (rank k.op)) y ≡ true → Folded x
      → Folded y
      → Folded (between k x y)
  unfolding form is_tight
  folded-between k x y l m i n =
      folds-amid k (form σ x) (form σ' x) (form σ y) (form σ' y) i.carried (turned-form σ' x) n.carried i.clean n.clean
      (leb (suc j) (rank k.op)) (leb j (rank k.op)) refl refl
      (λ e. i.after (ap (λ (m : ℕ). is_tight rank m x) (sym (eqb-true (rank k.op) j e)) ∙ l))
      (λ e. n.single (ap (λ (m : ℕ). is_tight rank (suc m) y) (sym (eqb-true (rank k.op) j e)) ∙ m))

  -- An operator of another rank, whatever stands beside it.
  apart_from : (k : Token) (A : Type 0) → rank k.op ≡ p → eqb (rank k.op) j ≡ true → A
  apart_from k A e h = absurd (w.apart (sym e ∙ eqb-true (rank k.op) j h))

  folded-choice : (q : Token) (c t : Exp) → rank q.op ≡ p → Folded c → Folded t → Folded (choice q c t)
  unfolding form is_tight
  folded-choice q c t e i n =
      folds-amid q (form σ c) (form σ' c) (form σ t) (form σ' t) i.carried (turned-form σ' c) n.carried i.clean n.clean
      (leb (suc j) (rank q.op)) (leb j (rank q.op)) refl refl (apart_from q _ e) (apart_from q _ e)

  folded-chosen : (q k : Token) (c t f : Exp) → rank q.op ≡ p → rank k.op ≡ p → Folded c → Folded t → Folded f
      → Folded (chosen q k c t f)
  unfolding form is_tight
  folded-chosen q k c t f e h i n m =
      let inner = folds-amid k (form σ t) (form σ' t) (form σ f) (form σ' f) n.carried (turned-form σ' t) m.carried n.clean
      m.clean
      (leb (suc j) (rank k.op)) (leb j (rank k.op)) refl refl (apart_from k _ h) (apart_from k _ h) in
      folds-amid q (form σ c) (form σ' c) (amid (σ k.op) k (form σ t) (form σ f)) (amid (σ' k.op) k (form σ' t) (form σ' f))
      i.carried (turned-form σ' c) inner.carried i.clean inner.clean
      (leb (suc j) (rank q.op)) (leb j (rank q.op)) refl refl (apart_from q _ e) (apart_from q _ e)

  folded : (e : Exp) → Ranked rank p e → Folded e
  unfolding form is_tight
  folded (leaf k) g = folds-node k nil nil true (other k g) gathers.begins none_left
  folded (over k x) g = folded-over k x g.0 (folded x g.1)
  folded (beside x y) g = folded-beside x y (folded x g.0) (folded y g.1)
  folded (between k x y) g = folded-between k x y g.2 g.3 (folded x g.4) (folded y g.5)
  folded (choice q c t) g = folded-choice q c t g.1 (folded c g.4) (folded t g.5)
  folded (chosen q k c t e) g = folded-chosen q k c t e g.1 g.3 (folded c g.8) (folded t g.9) (folded e g.10)

  -- The level takes the list of a ranked expression to the list in which its operators are folded too.
  pub binary-level : (e : Exp) → Ranked rank p e → walk (binary_level ops) (gathered nil) (form σ e nil) ≡ ok (form σ' e nil)
  binary-level e g = whole (form σ e) (form σ' e) (folded e g).carried
