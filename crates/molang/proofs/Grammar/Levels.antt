-- ALL LEVELS from the first binary one on, under the rules of every version: they take the list of a ranked expression in which nothing is
-- folded to the one in which everything is.
use Prim.Native.Nat.{ℕ, suc, ◌≤◌}
use mathlib.Core.Path.{◌≡◌, refl, ap, sym, ◌∙◌}
use mathlib.Core.{Bool.{Bool, true, false, ◌&&◌, not, true≢false, false≢true, and-eq-true_iff}, List.{List, [], ◌∷◌, ◌++◌}}
use native.Mathlib.Omega.{arith}
use lib.{Dec.{eqb, leb}, ListN.{length}}
use borrow.Author.Tests.{eqb-true, eqb-false, eq-eqb, ne_eqb, leb-true, leb-false, le-leb, lt-leb, not-true}
use Rattle.molang.specs.Operator
use Rattle.molang.specs.{Operator.{any, is_one_of}, Forest.{Token, Forest, nil, node}, Message.{ok}}
use Rattle.molang.specs.{Level.{walk, through, nothing}, Binary.{binary_level}, Conditional.{conditional_level}}
use Rattle.molang.specs.{Order.{Rules, Pass, conditional, order, runs, apply}, Read.{grouped}}
use Rattle.molang.specs.Order as Orders
use Rattle.molang.proofs.{Booleans.{either, eight-ways}, OperatorNumbers.{any_none}}
use Rattle.molang.proofs.Grammar.Ranked.{Exp, leaf, over, beside, between, choice, chosen, Ranked, amid, form}
use Rattle.molang.proofs.Grammar.Ranks.{Kind, plain, plus, ternary, operators_in, pass_of, passes_of, kind_of, kinds_of, levels, rank_in}
use Rattle.molang.proofs.{Grammar.Ranks.{rank, pairing}, Grammar.BinaryLevels.{OfRank, binary-level}}
use Rattle.molang.proofs.Grammar.Ternary as Ternaries

-- ---- ranks

pick-bound : (b : Bool) (l m : ℕ) → m ≤ l → elim b [ true ↦ suc l | false ↦ m ] ≤ suc l
pick-bound true l m h = omega arith
pick-bound false l m h = omega (arith, h)

pub rank-bound : (κs : List Kind) (n : ℕ) → rank_in κs n ≤ length κs
unfolding rank_in
rank-bound [] n = omega arith
rank-bound (κ ∷ κs) n = pick-bound (is_one_of (operators_in κ) n) (length κs) (rank_in κs n) (rank-bound κs n)

-- Every level of a part of the levels has the operators of its rank.
abbrev pub Good : List Kind → List Kind → Type 0
Good all [] = Unit {0}
Good all (κ ∷ κs) = ((n : ℕ) → is_one_of (operators_in κ) n ≡ eqb (rank_in all n) (suc (length κs))) × Good all κs

-- No operator of κ is one of a later level.
abbrev Apart : Kind → List Kind → Type 0
Apart κ [] = Unit {0}
Apart κ (l ∷ κs) = ((n : ℕ) → is_one_of (operators_in κ) n ≡ true → is_one_of (operators_in l) n ≡ false) × Apart κ κs

weaker : (κ : Kind) (all κs : List Kind) → length κs ≤ length all → Apart κ κs → Good all κs → Good (κ ∷ all) κs
weaker κ all [] l a g = tt
weaker κ all (m ∷ κs) l a g = ((λ n. told n (is_one_of (operators_in κ) n) refl), weaker κ all κs (omega (arith, l)) a.1 g.1)
  where
    told : (n : ℕ) (b : Bool) → is_one_of (operators_in κ) n ≡ b → is_one_of (operators_in m) n ≡ eqb (rank_in (κ ∷ all) n) (suc (length κs))
    told n true e =
        a.0 n e ∙ sym (ne_eqb (rank_in (κ ∷ all) n) (suc (length κs))
        (λ q. let r : rank_in (κ ∷ all) n ≡ suc (length all) = (unfold rank_in in rw (e, rank_in) refl) in omega (arith, q, r, l)))
    told n false e = g.0 n ∙ ap (λ (m : ℕ). eqb m (suc (length κs))) (sym (unfold rank_in in rw (e, rank_in) refl))

abbrev AllApart : List Kind → Type 0
AllApart [] = Unit {0}
AllApart (κ ∷ κs) = Apart κ κs × AllApart κs

good : (κs : List Kind) → AllApart κs → Good κs κs
good [] a = tt
good (κ ∷ κs) a = ((λ n. told n (is_one_of (operators_in κ) n) refl), weaker κ κs κs (omega arith) a.0 (good κs a.1))
  where
    told : (n : ℕ) (b : Bool) → is_one_of (operators_in κ) n ≡ b → is_one_of (operators_in κ) n ≡ eqb (rank_in (κ ∷ κs) n) (suc (length κs))
    told n true e = e ∙ sym (eq-eqb (rank_in (κ ∷ κs) n) (suc (length κs)) (unfold rank_in in rw (e, rank_in) refl))
    told n false e =
        e ∙ sym (ne_eqb (rank_in (κ ∷ κs) n) (suc (length κs))
        (λ q. let r : rank_in (κ ∷ κs) n ≡ rank_in κs n = (unfold rank_in in rw (e, rank_in) refl) in let b = rank-bound κs n in
        omega (arith, q, r, b)))

unfoldable apart_from : Kind → List Kind → Bool
apart_from κ [] = true
apart_from κ (l ∷ κs) = not (any (is_one_of (operators_in l)) (operators_in κ)) && apart_from κ κs

unfoldable all_apart : List Kind → Bool
all_apart [] = true
all_apart (κ ∷ κs) = apart_from κ κs && all_apart κs

apart-law : (κ : Kind) (κs : List Kind) → apart_from κ κs ≡ true → Apart κ κs
unfolding apart_from
apart-law κ [] h = tt
apart-law κ (l ∷ κs) h =
    let p = (and-eq-true_iff (not (any (is_one_of (operators_in l)) (operators_in κ))) (apart_from κ κs)).0 h in
    (any_none (is_one_of (operators_in l)) (operators_in κ) (not-true _ p.0), apart-law κ κs p.1)

all-apart-law : (κs : List Kind) → all_apart κs ≡ true → AllApart κs
unfolding all_apart
all-apart-law [] h = tt
all-apart-law (κ ∷ κs) h = let p = (and-eq-true_iff (apart_from κ κs) (all_apart κs)).0 h in (apart-law κ κs p.0, all-apart-law κs p.1)

abbrev pub ruled : Bool → Bool → Bool → Rules
ruled c a p = record { comparisons_first = c; and_first = a; pairs_right = p }

apart-levels : (c a p : Bool) → all_apart (levels (ruled c a p)) ≡ true
unfolding levels kinds_of kind_of order Orders.comparisons Orders.logic Orders.conditionals all_apart apart_from operators_in is_one_of
    any
apart-levels = eight-ways (λ c a p. all_apart (levels (ruled c a p)) ≡ true) refl refl refl refl refl refl refl refl

pub good-levels : (c a p : Bool) → Good (levels (ruled c a p)) (levels (ruled c a p))
good-levels c a p = good (levels (ruled c a p)) (all-apart-law (levels (ruled c a p)) (apart-levels c a p))

-- ---- one level

-- The ternary fold stands at the rank p, and nothing else does.
abbrev pub PlaceOf : Kind → ℕ → ℕ → Type 0
PlaceOf (plain ops) p j = p ≡ j → ⊥
PlaceOf plus p j = p ≡ j → ⊥
PlaceOf ternary p j = p ≡ j

abbrev pub Placed : ℕ → List Kind → Type 0
Placed p [] = Unit {0}
Placed p (κ ∷ κs) = PlaceOf κ p (suc (length κs)) × Placed p κs

unfoldable is_placed : Kind → ℕ → ℕ → Bool
is_placed (plain ops) p j = not (eqb p j)
is_placed plus p j = not (eqb p j)
is_placed ternary p j = eqb p j

unfoldable are_placed : ℕ → List Kind → Bool
are_placed p [] = true
are_placed p (κ ∷ κs) = is_placed κ p (suc (length κs)) && are_placed p κs

place-law : (κ : Kind) (p j : ℕ) → is_placed κ p j ≡ true → PlaceOf κ p j
unfolding is_placed
place-law (plain ops) p j h = λ e. true≢false (sym (eq-eqb p j e) ∙ not-true (eqb p j) h)
place-law plus p j h = λ e. true≢false (sym (eq-eqb p j e) ∙ not-true (eqb p j) h)
place-law ternary p j h = eqb-true p j h

placed-law : (p : ℕ) (κs : List Kind) → are_placed p κs ≡ true → Placed p κs
unfolding are_placed
placed-law p [] h = tt
placed-law p (κ ∷ κs) h =
    let b = (and-eq-true_iff (is_placed κ p (suc (length κs))) (are_placed p κs)).0 h in
    (place-law κ p (suc (length κs)) b.0, placed-law p κs b.1)

placed-computed : (c a p : Bool) → are_placed (pairing (ruled c a p)) (levels (ruled c a p)) ≡ true
unfolding levels kinds_of kind_of order Orders.comparisons Orders.logic Orders.conditionals are_placed is_placed pairing rank rank_in operators_in
    is_one_of any
placed-computed = eight-ways (λ c a p. are_placed (pairing (ruled c a p)) (levels (ruled c a p)) ≡ true)
    refl refl refl refl refl refl refl refl

pub placed-levels : (c a p : Bool) → Placed (pairing (ruled c a p)) (levels (ruled c a p))
placed-levels c a p = placed-law (pairing (ruled c a p)) (levels (ruled c a p)) (placed-computed c a p)

module _ (all : List Kind) (p : ℕ) where
  abbrev ranks : ℕ → ℕ
  ranks n = rank_in all n

  -- Folded: what has a higher rank than m.
  abbrev pub above : ℕ → ℕ → Bool
  above m n = leb (suc m) (ranks n)

  of-rank : (κ : Kind) (κs : List Kind) → Good all (κ ∷ κs) → (p ≡ suc (length κs) → ⊥) → OfRank ranks p (suc (length κs)) (operators_in κ)
  of-rank κ κs g a = record { positive = omega arith; told = g.0; apart = a }

  -- The two tokens of the ternary fold have its rank.
  pairs : (κs : List Kind) → Good all (ternary ∷ κs) → p ≡ suc (length κs) → Ternaries.Pairing ranks p
  unfolding operators_in is_one_of any
  pairs κs g e = record {
    positive = omega (arith, e);
    question = eqb-true (ranks Operator.conditional) (suc (length κs)) (sym (g.0 Operator.conditional)) ∙ sym e;
    colon = eqb-true (ranks Operator.conditional_else) (suc (length κs)) (sym (g.0 Operator.conditional_else)) ∙ sym e;
  }

  level-pass : (len : ℕ) (κ : Kind) (κs : List Kind) → Good all (κ ∷ κs) → PlaceOf κ p (suc (length κs)) → (e : Exp) → Ranked ranks p e
      → apply len (pass_of κ) (form (above (suc (length κs))) e nil) ≡ ok (form (above (length κs)) e nil)
  unfolding apply pass_of operators_in through binary_level nothing conditional_level
  level-pass len (plain ops) κs g a e r = binary-level ranks p (suc (length κs)) ops (of-rank (plain ops) κs g a) e r
  level-pass len plus κs g a e r = binary-level ranks p (suc (length κs)) (Operator.add ∷ []) (of-rank plus κs g a) e r
  level-pass len ternary κs g a e r =
      ap (λ (m : ℕ). walk conditional_level nil (form (above m) e nil)) (sym a)
      ∙ Ternaries.ternary-level ranks p (pairs κs g a) e r
      ∙ ap (λ (m : ℕ). ok (form (λ (n : ℕ). leb m (ranks n)) e nil)) a

  -- ---- a level that does not run

  -- No operator of these stands in the expression.
  abbrev pub Lacks : List ℕ → Exp → Type 0
  Lacks ops (leaf k) = Unit {0}
  Lacks ops (over k x) = Lacks ops x
  Lacks ops (beside x y) = Lacks ops x × Lacks ops y
  Lacks ops (between k x y) = (is_one_of ops k.op ≡ false) × Lacks ops x × Lacks ops y
  Lacks ops (choice q c t) = (is_one_of ops q.op ≡ false) × Lacks ops c × Lacks ops t
  Lacks ops (chosen q k c t e) = (is_one_of ops q.op ≡ false) × (is_one_of ops k.op ≡ false) × Lacks ops c × Lacks ops t × Lacks ops e

  amid-same : (a b : Bool) (k : Token) (X X' Y Y' : Forest → Forest) → a ≡ b → ((r : Forest) → X r ≡ X' r) → ((r : Forest) → Y r ≡ Y' r)
      → (r : Forest)
      → amid a k X Y r ≡ amid b k X' Y' r
  unfolding amid
  amid-same true true k X X' Y Y' h x y r = ap (λ (f : Forest). node k f r) (x (Y nil) ∙ ap X' (y nil))
  amid-same true false k X X' Y Y' h x y r = absurd (true≢false h)
  amid-same false true k X X' Y Y' h x y r = absurd (false≢true h)
  amid-same false false k X X' Y Y' h x y r = x (node k nil (Y r)) ∙ ap (λ (f : Forest). X' (node k nil f)) (y r)

  agree : (σ τ : ℕ → Bool) (ops : List ℕ) → ((n : ℕ) → is_one_of ops n ≡ false → σ n ≡ τ n) → (e : Exp) → Lacks ops e → (r : Forest)
      → form σ e r ≡ form τ e r
  unfolding form
  agree σ τ ops h (leaf k) l r = refl
  agree σ τ ops h (over k x) l r = ap (λ (f : Forest). node k f r) (agree σ τ ops h x l nil)
  agree σ τ ops h (beside x y) l r = agree σ τ ops h x l.0 (form σ y r) ∙ ap (form τ x) (agree σ τ ops h y l.1 r)
  agree σ τ ops h (between k x y) l r =
      amid-same (σ k.op) (τ k.op) k (form σ x) (form τ x) (form σ y) (form τ y) (h k.op l.0) (agree σ τ ops h x l.1)
      (agree σ τ ops h y l.2) r
  agree σ τ ops h (choice q c t) l r =
      amid-same (σ q.op) (τ q.op) q (form σ c) (form τ c) (form σ t) (form τ t) (h q.op l.0) (agree σ τ ops h c l.1)
      (agree σ τ ops h t l.2) r
  agree σ τ ops h (chosen q k c t e) l r =
      amid-same (σ q.op) (τ q.op) q (form σ c) (form τ c) (amid (σ k.op) k (form σ t) (form σ e))
      (amid (τ k.op) k (form τ t) (form τ e)) (h q.op l.0)
      (agree σ τ ops h c l.2)
      (amid-same (σ k.op) (τ k.op) k (form σ t) (form τ t) (form σ e) (form τ e) (h k.op l.1) (agree σ τ ops h t l.3)
      (agree σ τ ops h e l.4)) r

  level-same : (κ : Kind) (κs : List Kind) → Good all (κ ∷ κs) → (e : Exp) → Lacks (operators_in κ) e
      → form (above (suc (length κs))) e nil ≡ form (above (length κs)) e nil
  level-same κ κs g e l = agree (above (suc (length κs))) (above (length κs)) (operators_in κ) (λ n h. even n h) e l nil
    where
      even : (n : ℕ) → is_one_of (operators_in κ) n ≡ false → above (suc (length κs)) n ≡ above (length κs) n
      even n h =
          let apart = eqb-false (ranks n) (suc (length κs)) (sym (g.0 n) ∙ h) in
          either (leb (suc (suc (length κs))) (ranks n))
          (λ t. t ∙ sym (let l = leb-true (suc (suc (length κs))) (ranks n) t in le-leb (suc (length κs)) (ranks n) (omega (arith, l))))
          (λ f. f ∙ sym (let l = leb-false (suc (suc (length κs))) (ranks n) f in
          lt-leb (suc (length κs)) (ranks n) (omega (arith, l, apart))))

  -- ---- all of them

  -- A level that does not run has nothing to do.
  abbrev pub Gated : (ℕ → Bool) → Exp → List Kind → Type 0
  Gated u e [] = Unit {0}
  Gated u e (κ ∷ κs) = (runs u (pass_of κ) ≡ false → Lacks (operators_in κ) e) × Gated u e κs

  pub level-passes : (len : ℕ) (u : ℕ → Bool) (e : Exp) → Ranked ranks p e → (κs : List Kind) → Good all κs → Placed p κs → Gated u e κs
      → (ps : List Pass)
      → grouped len u (passes_of κs ++ ps) [] (form (above (length κs)) e nil) ≡ grouped len u ps [] (form (above 0) e nil)
  unfolding passes_of
  level-passes len u e r [] g a w ps = refl
  level-passes len u e r (κ ∷ κs) g a w ps = step (runs u (pass_of κ)) refl ∙ level-passes len u e r κs g.1 a.1 w.1 ps
    where
      f : Forest
      f = form (above (suc (length κs))) e nil

      step : (b : Bool) → runs u (pass_of κ) ≡ b
          → grouped len u (pass_of κ ∷ (passes_of κs ++ ps)) [] f ≡ grouped len u (passes_of κs ++ ps) [] (form (above (length κs)) e nil)
      step true h = unfold grouped in rw (h, grouped) (rw (level-pass len κ κs g a.0 e r) refl)
      step false h = unfold grouped in rw (h, grouped) (ap (grouped len u (passes_of κs ++ ps) []) (level-same κ κs g e (w.0 h)))
