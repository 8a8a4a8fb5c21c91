-- The loop over the ranks (`levels`): what the ranks that are left make of the list of slot 0 is the definition's answer at every turn, and
-- the list is never heavier than three nodes for each token, so that each pass has room to run.
use Prim.Native.Nat.{ℕ, ◌+◌, ◌*◌, ◌≤◌}
use mathlib.Core.{Path.{◌≡◌, refl, sym, ap, ◌∙◌, subst, subst₂}, Logic.{◌≢◌}, Bool.{Bool}, List.{List, [], ◌∷◌}}
use native.Mathlib.Omega.{arith}
use lib.{IntN.{ℤ}, ListN.{length, drop}}
use Rattle.molang.{specs.Forest.{Forest, leaves}, specs.Order.{Rules, Pass, order, last_token, member_accessors, sectioning}}
use Rattle.molang.{specs.Read.{Answer, grouped}, specs.Weight.{weight, node_weight}, specs.Work.{pass}, proofs.Bounds.{size-weight}}
use Rattle.ops.specs.declared.sets.OpSet.{OpSet}
use Rattle.nodes.specs.Children.{Given}
use Rattle.nodes.{specs.Children.{CanGive}, proofs.Trees.{array-give}}
use Rattle.levels.specs.{Turns.{lent_of}, declared.failure.Failure.{Failure}, declared.turns.Pass.{Pass as State}}
use Rattle.std.specs.Prelude.{Option, None, Some, Result, Ok, Err, ⊤}
use Rattle.levels.specs.declared.failure.{Fault.{Fault}, Fault.TheVariants.{Failed, PointerFailed}}
use Rattle.grouping.specs.Grouped.{tells, StandsFor, roots, failed, pointer_failed}
use Rattle.grouping.specs.{Driver.{Outermost, CanRun, RanTo, done}, Choice.{CanChoose, Chosen}}
use Rattle.grouping.specs.Group.{CanGroup, HasGrouped, Listed, Flattened, CanLevel, Levelled}
use Rattle.order.{specs.Ranks.{used_by, rules_of, later, Starts, Chosen as Picked}, proofs.Folding.{grouped-last, grouped-skip, RankRuns, rank-runs}}
use Rattle.order.specs.Ranks as starts
use Rattle.grouping.specs.Driver as driver
use Rattle.grouping.proofs.{Lasting.{pass-nodes}, OutermostLaws.{give-outermost}}

-- ---- one rank

-- no pass starts with an array that was lent to it
pub starts-unlent : {p : Pass} {state : State} → Starts p state → lent_of state ≡ 0
starts-unlent starts.call = refl
starts-unlent starts.unsplit_pass = refl
starts-unlent starts.array = refl
starts-unlent starts.math_call = refl
starts-unlent starts.unary = refl
starts-unlent starts.conditional_pass = refl
starts-unlent starts.return_pass = refl
starts-unlent (starts.point e) = refl
starts-unlent (starts.plus e) = refl
starts-unlent (starts.level e) = refl

-- What holds before rank k: the outermost list F of n items, and the answer over a source of length l.
pub record LevelAt (W₀ : List ℕ) (base m : ℕ) (u : ℕ → Bool) (r : Rules) (g : CanLevel W₀ base m) (l : ℕ) (W : List ℕ) (k n : ℕ)
    : Type 0 where
  pub F : Forest
  pub list : Outermost W base n (3 * g.n + 3) F
  pub light : weight node_weight F ≤ 3 * g.n
  pub answer : grouped l u (drop 3 (order r)) [] g.F ≡ grouped l u (drop k (later r)) [] F

pub level-start : {W : List ℕ} {base m : ℕ} (u : ℕ → Bool) (r : Rules) (g : CanLevel W base m) (l : ℕ) → LevelAt W base m u r g l W 0 m
level-start u r g l = record { F = g.F; list = g.list; light = g.light; answer = refl }

module _ {W₀ : List ℕ} {base m : ℕ} {u : ℕ → Bool} {r : Rules} {g : CanLevel W₀ base m} {l : ℕ} {W : List ℕ} {k n : ℕ}
    (long : length W ≡ length W₀) where
  module _ (v : LevelAt W₀ base m u r g l W k n) (state : State) (c : Picked u (drop k (later r)) (Some state)) where
    abbrev pub rank : RankRuns l u r k [] v.F state
    rank = rank-runs l u r k [] v.F state c

    abbrev pub level-run : CanRun W base n state
    level-run =
        record {
          κ = rank.kind;
          hi = 3 * g.n + 3;
          F = v.F;
          runs = rank.runs-kind;
          unlent = starts-unlent rank.starts.1;
          list = v.list;
          own = omega arith;
          below = omega (arith, g.based);
          room = omega (arith, g.based, g.room, v.light, size-weight v.F, long);
          small = omega (arith, g.small, long);
        }

  -- what a rank asks, by what was chosen there
  pub level-chooses : LevelAt W₀ base m u r g l W k n → (c : Option State) → Picked u (drop k (later r)) c → CanChoose W base n c
  level-chooses v (Some state) c = level-run v state c
  level-chooses v None c = tt

  -- the pass went through, or there was none
  pub level-on : LevelAt W₀ base m u r g l W k n → (c : Option State) → Picked u (drop k (later r)) c → {W' : List ℕ} (left : ℕ)
      → Chosen W base n c (Ok left) W'
      → LevelAt W₀ base m u r g l W' (k + 1) left
  level-on v None c {W'} left h =
      let same : left ≡ n = cc in
      record {
        F = v.F;
        list = subst₂ (λ (X : List ℕ) (y : ℕ). Outermost X base y (3 * g.n + 3) v.F) (sym h.1) (sym same) v.list;
        light = v.light;
        answer = v.answer ∙ grouped-skip l u r k [] v.F c;
      }
  level-on v (Some state) c {W'} left h = went (h.to (level-run v state c))
    where
      went : RanTo W' base (3 * g.n + 3) (pass (rank v state c).kind v.F) (Ok left) → LevelAt W₀ base m u r g l W' (k + 1) left
      went (done {f = f} e o) =
          record {
            F = f;
            list = o;
            light = omega (arith, pass-nodes (rank v state c).kind v.F f e, v.light);
            answer = v.answer ∙ (rank v state c).goes_on f e;
          }

  -- the pass failed: the pointer's, which leaves the list empty, or another's
  pub level-pointer : LevelAt W₀ base m u r g l W k n → (c : Option State) → Picked u (drop k (later r)) c → {W' : List ℕ} (f : Failure)
      → Chosen W base n c (Err f) W'
      → k ≡ 3 → StandsFor W' (3 * g.n + 3) g.n l (Err (PointerFailed f)) (grouped l u (drop 3 (order r)) [] g.F)
  level-pointer v None c f h at = let z : ◌≡◌ {A = ℕ} 0 1 = cc in absurd (omega arith)
  level-pointer v (Some state) c {W'} f h at = fell (h.to (level-run v state c))
    where
      fell : RanTo W' base (3 * g.n + 3) (pass (rank v state c).kind v.F) (Err f)
          → StandsFor W' (3 * g.n + 3) g.n l (Err (PointerFailed f)) (grouped l u (drop 3 (order r)) [] g.F)
      fell (driver.failed {ms = ms} e t) =
          subst (λ (a : Answer). StandsFor W' (3 * g.n + 3) g.n l (Err (PointerFailed f)) a)
          (sym (v.answer ∙ (rank v state c).pointer-ends ms at e)) (pointer_failed t)

  pub level-fails : LevelAt W₀ base m u r g l W k n → (c : Option State) → Picked u (drop k (later r)) c → {W' : List ℕ} (f : Failure)
      → Chosen W base n c (Err f) W'
      → k ≢ 3 → StandsFor W' (3 * g.n + 3) g.n l (Err (Failed f)) (grouped l u (drop 3 (order r)) [] g.F)
  level-fails v None c f h other = let z : ◌≡◌ {A = ℕ} 0 1 = cc in absurd (omega arith)
  level-fails v (Some state) c {W'} f h other = fell (h.to (level-run v state c))
    where
      fell : RanTo W' base (3 * g.n + 3) (pass (rank v state c).kind v.F) (Err f)
          → StandsFor W' (3 * g.n + 3) g.n l (Err (Failed f)) (grouped l u (drop 3 (order r)) [] g.F)
      fell (driver.failed {ms = ms} e t) =
          subst (λ (a : Answer). StandsFor W' (3 * g.n + 3) g.n l (Err (Failed f)) a) (sym (v.answer ∙ (rank v state c).ends ms other e))
          (failed (tells t))

-- after the last rank: the roots
pub level-roots : {W₀ : List ℕ} {base m : ℕ} {u : ℕ → Bool} {r : Rules} {g : CanLevel W₀ base m} {l : ℕ} {W : List ℕ} {k n : ℕ}
    → LevelAt W₀ base m u r g l W k n → k ≡ length (later r)
    → StandsFor W (3 * g.n + 3) g.n l (Ok tt) (grouped l u (drop 3 (order r)) [] g.F)
level-roots {u = u} {r} {g} {l} {W} {k} v e =
    let last = ap (λ (j : ℕ). grouped l u (drop j (later r)) [] v.F) e ∙ grouped-last l u r [] v.F in
    subst (λ (a : Answer). StandsFor W (3 * g.n + 3) g.n l (Ok tt) a) (sym (v.answer ∙ last))
    (roots v.list.owned (omega (arith, size-weight v.F, v.light)))

-- the same at an equal version
pub levelled-at : {W W' : List ℕ} {base m : ℕ} {used : OpSet} {r : Result ⊤ Fault} {z z' : ℤ} → z ≡ z' → Levelled W base m used z r W'
    → Levelled W base m used z' r W'
levelled-at {W} {W'} {base} {m} {used} {r} e w = subst (λ (v : ℤ). Levelled W base m used v r W') e w

-- ---- from the flat list to slot 0

module _ {W W1 : List ℕ} {base n : ℕ} {used : OpSet} where
  -- a flat pass failed
  pub group-ends : (fault : Fault) (version : ℤ) → Flattened W base n used (Err fault) W1 → HasGrouped W base n used version (Err fault) W1
  unfolding order
  group-ends fault version w = record { to = λ g l. w.to g l (drop 3 (order (rules_of version))); long = w.long }

  module _ (m : ℕ) (w : Flattened W base n used (Ok m) W1) where
    left : (g : CanGroup W base n) (l : ℕ) (ps : List Pass)
        → Listed W1 base n l (used_by used) ps (grouped l (used_by used)
        (last_token ∷ member_accessors ∷ sectioning ∷ ps) [] (leaves g.tokens)) m
    left g l ps = w.to g l ps

    pub group-gives : CanGroup W base n → CanGive W1 0 base m
    group-gives g =
        let f = left g 0 [] in
        array-give f.array (omega arith) (omega (arith, g.based)) (omega (arith, g.based, g.room, f.fewer, w.long))

    module _ {W2 : List ℕ} (given : Given W1 0 base m W2) where
      -- what is left stands under slot 0, whatever the passes after it
      levels-on : (g : CanGroup W base n) (l : ℕ) (ps : List Pass) → CanLevel W2 base m
      levels-on g l ps =
          let f = left g l ps in
          record {
            n = n;
            F = f.forest;
            list = give-outermost given f.array (omega arith) (omega (arith, g.based));
            light = f.light;
            based = g.based;
            room = omega (arith, g.room, w.long, given.long);
            small = omega (arith, g.small, w.long, given.long);
          }

      pub group-levels : CanGroup W base n → CanLevel W2 base m
      group-levels g = levels-on g 0 []

      pub group-done : {W3 : List ℕ} {r : Result ⊤ Fault} {version : ℤ} → Levelled W2 base m used version r W3
          → HasGrouped W base n used version r W3
      unfolding order levels-on
      group-done {W3} {r} {version} v =
          record {
            to = λ g l.
                let ps = drop 3 (order (rules_of version)) in
                subst (λ (a : Answer). StandsFor W3 (3 * n + 3) n l r a) (sym (left g l ps).is) (v.to (levels-on g l ps) l);
            long = v.long ∙ given.long ∙ w.long;
          }
