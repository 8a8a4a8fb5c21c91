-- The end of a list of the conditional pass: nothing to fold; or what the fold leaves, in which a `?` or a `:` may be without operands.
use Prim.Native.Nat.{ℕ, ◌+◌, ◌-◌}
use mathlib.Core.{Path.{◌≡◌, refl, sym, ◌∙◌, subst}, List.{List, ◌∷◌, []}}
use mathlib.Core.Option as math
use native.Mathlib.{Omega.{arith}, Nat.{le_refl}}
use Rattle.molang.{specs.Forest.{Token, Forest, nil, count}, specs.Message.{fail, ternary_without_operands}, specs.Level.{walk}}
use Rattle.molang.{specs.Conditional.{folded_from, dangling, undangled, conditional_finish, conditional_level}, specs.Free.{is_conditional}}
use Rattle.molang.{specs.Work.{Kind, State, conditional, work}, proofs.Conditional.{undangled-calm}}
use Rattle.nodes.specs.{Store.{InArray, Kept}, declared.frames.List.{List as Items}}
use Rattle.nodes.proofs.{Store.{back-raise, rep-count}, Trees.{gathered-array}}
use Rattle.levels.specs.{Passes.{walk_of}, Items.{BackArray, Ahead}, Sides.{tokens_in}, Failures.{Tells}}
use Rattle.std.specs.Prelude.{None, Some, Ok, Err}
use Rattle.levels.specs.Turns.{Within, CanFinish, ended_at, FinishTo, gives, fails, Ends}
use Rattle.levels.specs.{declared.failure.Failure.TheVariants.{TernaryWithoutOperands}, declared.turns.Pass.TheVariants.{Conditional}}
use Rattle.levels.proofs.Reading.{ahead-le, same-within}
use Rattle.passes.specs.Conditional.{CanDangle, DanglesAt, nowhere, here, Dangles, CanFold, FoldedAll}
use Rattle.passes.proofs.ConditionalLaws.{LeftList, of-conditional, nothing-folds}

-- ---- every item is gathered

all-gathered : {W X : List ℕ} {lo l m hi tokens : ℕ} {v : Items} {d : Forest} → LeftList W X lo l m hi v tokens d nil → v.write ≡ v.read
    → BackArray W X v.base v.len lo hi d
unfolding count
all-gathered list e =
    let b = list.done in
    let rest = list.unread in
    let top = (ahead-le rest).0 in
    let mid = list.mid in
    record {
      ds = b.ds;
      seg = b.seg;
      count = omega (arith, b.count, rest.count, rest.array.count, rep-count rest.array.rep);
      rep = back-raise (omega arith) b.rep;
    }

module _ {W : List ℕ} {v : Items} {tokens : ℕ} (g : CanFinish W (walk_of v (Conditional tokens))) where
  -- A list that ends is one of the conditional pass.
  at-end : (Q : (κ : Kind) → State κ → Type 0)
      → ((d : Forest) → tokens ≡ tokens_in is_conditional d → BackArray W g.X v.base v.len g.lo g.hi d → Q conditional d)
      → Q g.κ g.s
  at-end Q f =
      of-conditional g.holds.sides.runs g.s g.holds.sides g.small Q
      (λ d list. f d list.counted (all-gathered list g.holds.turning))

  abbrev folding : (d : Forest) → BackArray W g.X v.base v.len g.lo g.hi d → CanFold W v.base v.len
  folding d items =
      record {
        X = g.X;
        lo = g.lo;
        hi = g.hi;
        d = d;
        items = items;
        below = g.holds.sides.below;
        within = g.holds.sides.within;
        small = g.small;
      }

  pub can-fold : CanFold W v.base v.len
  can-fold = at-end (λ κ s. CanFold W v.base v.len) (λ d n items. folding d items)

abbrev pub can-dangle : {W W' : List ℕ} {base len from : ℕ} → CanFold W base len → FoldedAll W base len from W' → CanDangle W' base from len
can-dangle g w =
    record {
      X = g.X;
      lo = g.lo;
      hi = g.hi;
      f = folded_from g.d;
      items = w.to g;
      below = g.below;
      within = rw w.long g.within;
      small = rw w.long g.small;
    }

-- ---- what `finish` ensures

-- there is no `?` and no `:`
pub ends-idle : {W : List ℕ} {v : Items} {tokens : ℕ} → tokens ≡ 0 → Ends W (walk_of v (Conditional tokens)) (Ok (ended_at v.base v.len)) W
ends-idle {W} {v} {tokens} e =
    record {
      to = λ g.
          at-end g (λ κ s. FinishTo κ W g.X g.lo g.hi v s (Ok (ended_at v.base v.len)))
          (λ d n items. gives (nothing-folds d (sym n ∙ e)) (rw items.count (gathered-array items.rep items.seg))
          (le_refl v.base) (omega arith));
      within = λ g. same-within;
    }

-- what is left of the pass, by what dangles
folds : (d : Forest) → work conditional d nil ≡ undangled (folded_from d)
unfolding work walk conditional_level conditional_finish
folds d = refl

undangled-some : (f : Forest) {k : Token} → dangling f ≡ math.some k → undangled f ≡ fail (ternary_without_operands k ∷ [])
undangled-some f e = unfold undangled in rw (e, undangled) refl

module _ {W' X : List ℕ} {lo hi : ℕ} (v : Items) (d : Forest) where
  -- nothing dangles
  none_left : {from : ℕ} {o : math.Option Token} → dangling (folded_from d) ≡ o → DanglesAt W' o None
      → Ahead W' X v.base from v.len lo hi (folded_from d)
      → FinishTo conditional W' X lo hi v d (Ok (ended_at (v.base + from) (v.len - from)))
  none_left {from} e nowhere a =
      let n : a.n ≡ v.len - from = omega (arith, a.count) in
      gives (folds d ∙ undangled-calm (folded_from d) e)
      (subst (λ (x : ℕ). InArray W' X (v.base + from) x lo hi (folded_from d)) n a.array) (omega arith) (omega (arith, a.count))

  -- the first item that dangles is the one that the failure names
  one_left : {s : ℕ} {o : math.Option Token} → dangling (folded_from d) ≡ o → DanglesAt W' o (Some s)
      → FinishTo conditional W' X lo hi v d (Err (TernaryWithoutOperands s))
  one_left e (here t) = fails (Tells.ternary_without_operands t) (folds d ∙ undangled-some (folded_from d) e)

module _ {W W' : List ℕ} {v : Items} {tokens from : ℕ} (w : FoldedAll W v.base v.len from W') where
  end-within : (g : CanFinish W (walk_of v (Conditional tokens))) → Within W W' g.X g.lo g.hi v
  end-within g =
      record {
        kept = at-end g (λ κ s. Kept W W' g.X g.lo g.hi v.base (v.base + v.len)) (λ d n items. w.kept (folding g d items));
        long = w.long;
      }

  pub ends-folded : Dangles W' v.base from v.len None
      → Ends W (walk_of v (Conditional tokens)) (Ok (ended_at (v.base + from) (v.len - from))) W'
  ends-folded h =
      record {
        to = λ g.
            at-end g (λ κ s. FinishTo κ W' g.X g.lo g.hi v s (Ok (ended_at (v.base + from) (v.len - from))))
            (λ d n items. let c = folding g d items in none_left v d refl (h.at (can-dangle c w)) (w.to c));
        within = end-within;
      }

  pub ends-dangling : {s : ℕ} → Dangles W' v.base from v.len (Some s)
      → Ends W (walk_of v (Conditional tokens)) (Err (TernaryWithoutOperands s)) W'
  ends-dangling {s} h =
      record {
        to = λ g.
            at-end g (λ κ s'. FinishTo κ W' g.X g.lo g.hi v s' (Err (TernaryWithoutOperands s)))
            (λ d n items. one_left v d refl (h.at (can-dangle (folding g d items) w)));
        within = end-within;
      }
