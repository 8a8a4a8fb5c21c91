-- The end of a list whose items are all done: the done trees are what the pass gives, in order.
use Prim.Native.Nat.{ℕ, ◌+◌, ◌-◌, ◌^◌, ◌≤◌, ◌<◌}
use mathlib.Core.{Path.{◌≡◌, refl, sym, subst}, List.{List, [], ◌∷◌}}
use native.Mathlib.{Omega.{arith}, Nat.{le_refl}}
use lib.ListN.{length}
use types.Run.{OneOf, miss}
use denote.Enum.Declared.{tag_of}
use Rattle.molang.specs.{Forest.{Forest, in_order}, Level.{walk}, Calls.{call_level, call_finish, array_level, array_finish, flushed}}
use Rattle.molang.specs.{Statements.{statement_level, statement_finish}, Unary.{return_level, return_finish}}
use Rattle.molang.specs.{Binary.{binary_level, binary_finish}, Work.{Kind, State, work, from_right}}
use Rattle.nodes.specs.{Store.{InArray}, declared.frames.List.{List as Items}}
use Rattle.nodes.proofs.{Store.{back-raise, rep-lower}, Trees.{gathered-array}}
use Rattle.levels.specs.{Passes.{walk_of, Runs, call, math_call, unsplit_pass, array, unary, level, return_pass, waits}, Items.{BackArray}}
use Rattle.levels.specs.Sides.{GatherSide, LevelSide, StatementSide, ArraySide, RightSide, DoneSide, AtTurn}
use Rattle.levels.specs.{Turns.{CanFinish, FinishTo, gives, ended_at, Ends}, declared.turns.Pass.{Pass}}
use Rattle.levels.specs.declared.turns.Pass.TheVariants.{Calls, MathCalls, Unsplit, Split, Arrays, Unary, Binary, Conditional, Returns}
use Rattle.levels.specs.{declared.turns.Finished.{Finished}, declared.failure.Failure.{Failure}}
use Rattle.std.specs.Prelude.{Result, Ok}
use Rattle.levels.proofs.{Reading.{same-within}}
use Rattle.levels.specs.contracts.turns.Pass.{the_type}
use Rattle.grouping.proofs.StackLaws.{holds-within}

-- The passes that give the done trees from the left as they are.
abbrev pub Gathering : Pass → Type 0
Gathering Calls = Unit {0}
Gathering MathCalls = Unit {0}
Gathering Unsplit = Unit {0}
Gathering (Split done) = ⊥
Gathering (Arrays a b) = Unit {0}
Gathering Unary = ⊥
Gathering (Binary classes pending) = Unit {0}
Gathering (Conditional tokens) = ⊥
Gathering Returns = Unit {0}

module _ (W X : List ℕ) (lo l m hi : ℕ) (v : Items) (high : l ≤ hi) (written : v.write ≤ v.len) where
  gathered-in-order : (d : Forest) → BackArray W X v.base v.write lo l d → InArray W X v.base v.write lo hi (in_order d)
  gathered-in-order d b = rw b.count (gathered-array (back-raise high b.rep) b.seg)

  finish-gathered : (κ : Kind) (p : Pass) (s : State κ) → Runs κ p → Gathering p → DoneSide κ W X lo l m hi (walk_of v p) s → AtTurn v p
      → waits κ s ≡ 0
      → FinishTo κ W X lo hi v s (Ok (ended_at v.base v.write))
  unfolding work walk call_level call_finish return_level return_finish binary_level binary_finish statement_level statement_finish array_level
      array_finish flushed waits
  finish-gathered _ _ s (Rattle.levels.specs.Passes.split {done = done}) g _ t e = elim g [ ]
  finish-gathered _ _ s unary g _ t e = elim g [ ]
  finish-gathered _ _ s (Rattle.levels.specs.Passes.conditional_pass {tokens = tokens}) g _ t e = elim g [ ]
  finish-gathered κ p s call g (GatherSide.all {d = d} b) t e = gives refl (gathered-in-order d b) (le_refl v.base) (omega arith)
  finish-gathered κ p s math_call g (GatherSide.all {d = d} b) t e = gives refl (gathered-in-order d b) (le_refl v.base) (omega arith)
  finish-gathered κ p s unsplit_pass g (StatementSide.whole {d = d} b) t e =
      gives refl (gathered-in-order d b) (le_refl v.base) (omega arith)
  finish-gathered κ p s array g (ArraySide.all {d = d} b) t e = gives refl (gathered-in-order d b) (le_refl v.base) (omega arith)
  finish-gathered κ p s array g (ArraySide.growing b o) t e = absurd (omega arith)
  finish-gathered κ p s (level h) g (LevelSide.all {d = d} c b) t e = gives refl (gathered-in-order d b) (le_refl v.base) (omega arith)
  finish-gathered κ p s (level h) g (LevelSide.operator c b n u o) t e = absurd (omega (arith, t.0, o.pos))
  finish-gathered κ p s return_pass g (GatherSide.all {d = d} b) t e = gives refl (gathered-in-order d b) (le_refl v.base) (omega arith)

pub gathered-ends : (W : List ℕ) (v : Items) (p : Pass) → Gathering p → Ends W (walk_of v p) (Ok (ended_at v.base v.write)) W
gathered-ends W v p gathering =
    record {
      to = λ g.
          let sides = g.holds.sides in
          let high = sides.high in
          let mid = sides.mid in
          finish-gathered W g.X g.lo g.holds.l g.holds.m g.hi v (omega arith) (holds-within g.holds).0 g.κ p g.s
          sides.runs gathering sides.done
          g.holds.turning g.idle;
      within = λ g. same-within;
    }

-- from the right the done trees stand at the list's end
finish-right : (W X : List ℕ) (lo l m hi : ℕ) (v : Items) (κ : Kind) (s : State κ) → lo ≤ m → Runs κ Unary
    → DoneSide κ W X lo l m hi (walk_of v Unary) s
    → FinishTo κ W X lo hi v s (Ok (ended_at (v.base + v.write) (v.len - v.write)))
unfolding work from_right
finish-right W X lo l m hi v κ s low unary (RightSide.all {d = d} {n = n} e b) =
    let n' : n ≡ v.len - v.write = omega arith in
    let b' : InArray W X (v.base + v.write) n lo hi d =
    record { bs = b.bs; seg = b.seg; count = b.count; rep = rep-lower low b.rep } in
    gives refl (subst (λ (x : ℕ). InArray W X (v.base + v.write) x lo hi d) n' b') (omega arith) (omega arith)

pub right-ends : (W : List ℕ) (v : Items) → Ends W (walk_of v Unary) (Ok (ended_at (v.base + v.write) (v.len - v.write))) W
right-ends W v =
    record {
      to = λ g.
          let sides = g.holds.sides in
          let low = sides.low in
          let mid = sides.mid in
          finish-right W g.X g.lo g.holds.l g.holds.m g.hi v g.κ g.s (omega arith) sides.runs sides.done;
      within = λ g. same-within;
    }

pub finish-within : {W : List ℕ} (v : Items) (p : Pass) → CanFinish W (walk_of v p)
    → (v.write ≤ v.len) × (v.base + v.len ≤ length W) × (length W < 2 ^ 32)
finish-within v p g = ((holds-within g.holds).0, g.holds.sides.within, g.small)

-- ---- for the arms of `finish`

pub finish-at : {W : List ℕ} (v : Items) (p q : Pass) → p ≡ q → CanFinish W (walk_of v p) → CanFinish W (walk_of v q)
finish-at {W} v p q e g = subst (λ (x : Pass). CanFinish W (walk_of v x)) e g

pub ends_by : {W W' : List ℕ} {r : Result Finished Failure} (v : Items) (p q : Pass) → p ≡ q → Ends W (walk_of v q) r W' → Ends W (walk_of v p) r W'
ends_by {W} {W'} {r} v p q e x = subst (λ (y : Pass). Ends W (walk_of v y) r W') (sym e) x

pub gathering-at : (p : Pass) → OneOf (0 ∷ 1 ∷ 2 ∷ 4 ∷ 6 ∷ 8 ∷ []) (tag_of the_type p) → Gathering p
gathering-at Calls t = tt
gathering-at MathCalls t = tt
gathering-at Unsplit t = tt
gathering-at (Split done) t = absurd (miss (0 ∷ 1 ∷ 2 ∷ 4 ∷ 6 ∷ 8 ∷ []) 3 tt t)
gathering-at (Arrays a b) t = tt
gathering-at Unary t = absurd (miss (0 ∷ 1 ∷ 2 ∷ 4 ∷ 6 ∷ 8 ∷ []) 5 tt t)
gathering-at (Binary classes pending) t = tt
gathering-at (Conditional tokens) t = absurd (miss (0 ∷ 1 ∷ 2 ∷ 4 ∷ 6 ∷ 8 ∷ []) 7 tt t)
gathering-at Returns t = tt
