-- What the words of a statement say of trees: the items from some word on stand under a new node in a slot of its own, with the span of the
-- first of them.
use Prim.Native.Nat.{ℕ, ◌+◌, ◌≤◌, ◌<◌}
use mathlib.Core.{Path.{◌≡◌, refl, sym, ◌∙◌, subst}, Logic.{◌≢◌, ◌⊎◌, inl, inr, ⊎_elim}, List.{List, ◌∷◌}}
use native.Mathlib.Omega.{arith}
use lib.ListN.{length}
use Rattle.molang.specs.{Operator.{semicolon}, Forest.{Token, Forest, nil, node, bare, in_order, turned_onto}}
use Rattle.nodes.specs.Store.{wd, slot_start, slot_end, TokenAt, Seg, Out, RepF, more, RepT, Owned, InArray, Free}
use Rattle.nodes.proofs.{Runs.{seg-keep, set_same, set_other, set_long}, Tokens.{token-made}}
use Rattle.nodes.proofs.{Store.{rep-keep, rep-avoid, rep-raise, rep-lower, tree-keep}, Keeping.{roots-off}}
use Rattle.nodes.proofs.Trees.{give-owned, give-token, owned-tree, gathered-array}
use Rattle.levels.specs.Items.{BackArray}
use Rattle.passes.specs.Statements.{Grouped}
use Rattle.passes.proofs.StatementLaws.{earliest}

-- the first of the trees in order
pub record TurnedFirst (k : Token) (f : Forest) : Type 0 where
  pub cs : Forest
  pub rest : Forest
  pub is : f ≡ node k cs rest

turned-first : (k : Token) (cs d f : Forest) → TurnedFirst (earliest k d) (turned_onto (node k cs d) f)
unfolding turned_onto earliest
turned-first k cs nil f = record { cs = cs; rest = f; is = refl }
turned-first k cs (node t ts d) f = turned-first t ts d (node k cs f)

pub order-first : (k : Token) (cs d : Forest) → TurnedFirst (earliest k d) (in_order (node k cs d))
order-first k cs d = unfold in_order in turned-first k cs d nil

first-token : {W X bs : List ℕ} {lo hi : ℕ} {t : Token} {k f : Forest} (at : ℕ) → RepF W X bs lo hi (node t k f) → Seg W at bs
    → TokenAt W (wd W at) t
first-token {W} {t = t} at (more a c d z p tk n ch ks r) g = subst (λ (x : ℕ). TokenAt W x t) (sym g.0) tk

-- the items in order, before the change
pub in_order_lem : {W X : List ℕ} {at n m l : ℕ} {d : Forest} → BackArray W X at n m l d → InArray W X at n m l (in_order d)
in_order_lem {W} {X} {at} {n} {m} {l} {d} v =
    subst (λ (x : ℕ). InArray W X at x m l (in_order d)) (sym v.count) (gathered-array v.rep v.seg)

module _ {W W' X : List ℕ} {b at n m l lo hi : ℕ} {k : Token} {cs d : Forest} (g : Grouped W b at n W')
    (v : BackArray W X at n m l (node k cs d))
    (beside : (b < m) ⊎ (l ≤ b)) (low : lo ≤ m) (high : l ≤ hi) (above : lo ≤ b) (below : b < hi) (stack : slot_start hi ≤ at) where
  -- the statement
  pub grouped-tree : 0 < b → Out b X → at + n ≤ length W → RepT W' X b lo hi (bare semicolon (earliest k d)) (in_order (node k cs d))
  grouped-tree pos out room =
      let ar = in_order_lem v in
      let bs = ar.bs in
      let V1 = g.made in
      let V2 = g.given in
      let mk = g.make in
      let f = order-first k cs d in
      let r1 : RepF V1 X bs m l (in_order (node k cs d))
      =
      rep-keep W V1 (λ s o x y z p e. mk.same (slot_start s + o) (⊎_elim (λ h. inr (omega arith)) (λ h. inl (omega arith)) beside))
      ar.rep in
      let r2 : RepF V1 (b ∷ X) bs m l (in_order (node k cs d)) =
      rep-avoid (λ s x y o. (⊎_elim (λ h. omega arith) (λ h. omega arith) beside, o)) r1 in
      let r3 : RepF V1 (b ∷ X) bs lo hi (in_order (node k cs d)) = rep-raise high (rep-lower low r2) in
      let sg : Seg V1 at bs = seg-keep W V1 at bs (λ j x y. mk.same j (inr (omega arith))) ar.seg in
      let owned : Owned V2 X b lo hi (node (earliest k d) f.cs f.rest) =
      subst (λ (x : Forest). Owned V2 X b lo hi x) f.is (give-owned g.give sg (sym ar.count) r3) in
      let first : TokenAt W (wd W at) (earliest k d) =
      first-token at (subst (λ (x : Forest). RepF W X bs m l x) f.is ar.rep) ar.seg in
      let token = give-token g.give sg (sym ar.count) r3 (token-made {o = semicolon} mk (omega arith) first) in
      let made : RepT V2 X b lo hi (bare semicolon (earliest k d)) (node (earliest k d) f.cs f.rest) =
      owned-tree token pos out above below owned in
      subst (λ (x : Forest). RepT W' X b lo hi (bare semicolon (earliest k d)) x) (sym f.is)
      (tree-keep V2 W' (λ s o x y z p e. set_other V2 W' at b g.stored (slot_start s + o) (omega arith)) made)

  -- the words that stay
  pub grouped-same : (j : ℕ) → j ≢ at → (j < slot_start b) ⊎ (slot_end b ≤ j) → Free X m l j → wd W' j ≡ wd W j
  grouped-same j na nb f =
      let ar = in_order_lem v in
      let bs = ar.bs in
      let V1 = g.made in
      let V2 = g.given in
      let mk = g.make in
      let sg : Seg V1 at bs = seg-keep W V1 at bs (λ j x y. mk.same j (inr (omega arith))) ar.seg in
      set_other V2 W' at b g.stored j na
      ∙ g.give.same bs sg (sym ar.count) j (⊎_elim (λ h. omega arith) (λ h. omega arith) nb)
      (⊎_elim (λ h. omega arith) (λ h. omega arith) nb) (roots-off j ar.rep f)
      ∙ mk.same j nb

  pub grouped-stored : at < length W → wd W' at ≡ b
  grouped-stored h = set_same g.given W' at b g.stored (omega (arith, g.give.long, g.make.long))

pub grouped-long : {W W' : List ℕ} {b at n : ℕ} → Grouped W b at n W' → length W' ≡ length W
grouped-long {W} {W'} {b} {at} g = set_long g.given W' at b g.stored ∙ g.give.long ∙ g.make.long
