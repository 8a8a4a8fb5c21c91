-- How a list begins (`open`): its owner's children stand in its words, all unread, and the pass's state is that of its beginning; or, where
-- an array was lent to it, that array waits.
use Prim.Native.Nat.{ℕ, ◌+◌, ◌^◌, ◌≤◌, ◌<◌}
use mathlib.Core.{Path.{◌≡◌, refl, sym, ap, ◌∙◌, subst}, Logic.{◌⊎◌, inl, inr}, Bool.{true}, List.{List, [], ◌∷◌}}
use native.Mathlib.{Omega.{arith}, Nat.{add-zero, le_refl}}
use lib.ListN.{length}
use types.Run.{OneOf, miss}
use denote.Enum.Declared.{tag_of}
use Rattle.molang.specs.{Forest.{Token, Forest, nil, in_order, count}, Level.{gathered, nothing}}
use Rattle.molang.specs.{Calls.{query_or_loop, math, call_level, array_level, unindexed, indexed, starts_with_index}, Unary.{return_level}}
use Rattle.molang.specs.{Binary.{binary_level}, Conditional.{conditional_level}, Free.{clear}}
use Rattle.molang.specs.Work.{Kind, calls, statements, arrays, unary_minus_and_not, conditional, returns, binary, State, begins, in_reading}
use Rattle.ops.specs.declared.classes.TokenClasses.{TokenClasses}
use Rattle.nodes.specs.{Store.{wd, slot_start, first_at, onto, ends, RepB, InArray}, Children.{CanTake, Taken}}
use Rattle.nodes.specs.declared.frames.List.{List as Items}
use Rattle.nodes.proofs.{Runs.{seg_b-back, length-onto}, Store.{rep-le, rep-lower, rep-count, onto-back}, Trees.{can-take, take-array}}
use Rattle.levels.specs.Passes.{walk_of, moved_to, classes_of, begun_of, Runs, call, math_call, unsplit_pass, split, array, unary, level}
use Rattle.levels.specs.{Passes.{conditional_pass, return_pass}, Items.{BackArray, Ahead}}
use Rattle.levels.specs.Sides.{GatherSide, LevelSide, ConditionalSide, tokens_in, OpenArray, ArraySide, RightSide, DoneSide, UnreadSide}
use Rattle.levels.specs.{Sides.{Agrees, AtTurn, Holds}, Turns.{Begins, afresh, lent, CanStart, Started}, declared.turns.Pass.{Pass}}
use Rattle.levels.specs.declared.turns.Pass.TheVariants.{Calls, MathCalls, Unsplit, Split, Arrays, Unary, Binary, Conditional, Returns}
use Rattle.levels.specs.declared.turns.Walk.{Walk}
use Rattle.levels.proofs.{States.{sides-of, holds_of}}
use Rattle.levels.specs.contracts.turns.Pass.{the_type}
use Rattle.grouping.specs.Driver.{CanOpen, Opened, CanBegin, Begun}
use Rattle.grouping.proofs.SideLaws.{open-array-keep}

-- the list at its beginning
abbrev pub list_from : ℕ → ℕ → ℕ → Items
list_from owner base len = record { owner = owner; base = base; len = len; read = 0; write = 0 }

pub begun-array : {W X : List ℕ} {at n lo lo' hi : ℕ} {f : Forest} → lo' ≤ lo → InArray W X at n lo hi f → InArray W X at n lo' hi f
begun-array h v = record { bs = v.bs; seg = v.seg; count = v.count; rep = rep-lower h v.rep }

module _ (W' X : List ℕ) (owner base len lo n hi : ℕ) (cs : Forest) (v : InArray W' X base len n hi cs) (low : lo ≤ n)
    (below : slot_start hi ≤ base) (within : base + len ≤ length W') where
  -- nothing is done yet
  none_done : BackArray W' X base 0 lo n nil
  none_done = record { ds = []; seg = tt; count = refl; rep = RepB.begins low }

  all-ahead : Ahead W' X base 0 len n hi cs
  all-ahead = record { n = len; count = omega arith; array = rw add-zero v }

  begun-at : (κ : Kind) (p : Pass) (s : State κ) → Runs κ p → DoneSide κ W' X lo n n hi (walk_of (list_from owner base len) p) s
      → UnreadSide κ W' X lo n n hi (list_from owner base len) cs → Agrees κ (list_from owner base len) s cs
      → AtTurn (list_from owner base len) p
      → Holds κ W' X lo hi (walk_of (list_from owner base len) p) s cs
  begun-at κ p s runs done unread agrees turning =
      holds_of n n (sides-of runs done unread agrees low (le_refl n) (rep-le v.rep) below within) turning

  -- ---- afresh

  start-call : Holds (calls query_or_loop) W' X lo hi (walk_of (list_from owner base len) Calls) (begins (calls query_or_loop) cs) cs
  unfolding begins call_level nothing
  start-call = begun-at (calls query_or_loop) Calls (gathered nil) call (GatherSide.all none_done) all-ahead tt (le_refl 0)

  start-math : Holds (calls math) W' X lo hi (walk_of (list_from owner base len) MathCalls) (begins (calls math) cs) cs
  unfolding begins call_level nothing
  start-math = begun-at (calls math) MathCalls (gathered nil) math_call (GatherSide.all none_done) all-ahead tt (le_refl 0)

  start-return : Holds returns W' X lo hi (walk_of (list_from owner base len) Returns) (begins returns cs) cs
  unfolding begins return_level nothing
  start-return = begun-at returns Returns (gathered nil) return_pass (GatherSide.all none_done) all-ahead tt (le_refl 0)

  start-level : (ops : List ℕ) (classes : TokenClasses) {q : ℕ} → Runs (binary ops) (Binary classes q)
      → Holds (binary ops) W' X lo hi (walk_of (list_from owner base len) (Binary classes 0)) (begins (binary ops) cs) cs
  unfolding begins binary_level nothing clear
  start-level ops classes (level e) =
      begun-at (binary ops) (Binary classes 0) (gathered nil) (level e) (LevelSide.all refl none_done) all-ahead tt (refl, le_refl 0)

  start-conditional : Holds conditional W' X lo hi (walk_of (list_from owner base len) (Conditional 0)) (begins conditional cs) cs
  unfolding begins conditional_level tokens_in
  start-conditional = begun-at conditional (Conditional 0) nil conditional_pass (ConditionalSide.all refl none_done) all-ahead tt refl

  start-array : Holds arrays W' X lo hi (walk_of (list_from owner base len) (Arrays 0 0)) (begins arrays cs) cs
  unfolding begins array_level
  start-array = begun-at arrays (Arrays 0 0) (unindexed nil) array (ArraySide.all none_done) all-ahead tt (refl, le_refl 0)

  -- with an array that was lent
  start-lent : (a : ℕ) (q : Token) → OpenArray W' X a lo n q nil → starts_with_index cs ≡ true
      → Holds arrays W' X lo hi (walk_of (list_from owner base len) (Arrays a 0)) (indexed nil q nil) cs
  start-lent a q o h =
      begun-at arrays (Arrays a 0) (indexed nil q nil) array
      (ArraySide.growing (record { ds = []; seg = tt; count = refl; rep = RepB.begins (le_refl lo) }) o) all-ahead (inr h) (refl, le_refl 0)

  -- from the right
  start-unary : Holds unary_minus_and_not W' X lo hi (walk_of (record { owner = owner; base = base; len = len; read = len; write = len }) Unary)
      (begins unary_minus_and_not cs) (in_order cs)
  unfolding begins in_order
  start-unary =
      let high = rep-le v.rep in
      record {
        l = hi;
        m = hi;
        sides = sides-of unary (RightSide.all {n = 0} (omega arith) (record { bs = []; seg = tt; count = refl; rep = ends (le_refl hi) }))
            (record {
              ds = onto v.bs [];
              seg = seg_b-back W' base v.bs [] tt (rw add-zero v.seg);
              count = omega (arith, v.count, length-onto v.bs []);
              rep = onto-back (RepB.begins low) v.rep;
            })
            tt (omega arith) (le_refl hi) (le_refl hi) below within;
        turning = le_refl len;
      }

  -- what `statements::start` asks
  pub can-start : length W' < 2 ^ 32 → CanStart W' (list_from owner base len)
  can-start small =
      record {
        X = X;
        lo = lo;
        hi = hi;
        f = cs;
        array = begun-array low v;
        unread = refl;
        unwritten = refl;
        below = below;
        within = within;
        small = small;
      }

-- ---- the walk that `open` gives for each pass

abbrev pub Opens : List ℕ → List ℕ → ℕ → ℕ → ℕ → Pass → Walk → Type 0
Opens W W' owner base len p w =
    (κ : Kind) (X : List ℕ) (lo n hi : ℕ) (cs : Forest) (u : State κ) → Runs κ p → Begins W (owner ∷ X) lo n cs κ p u
    → InArray W' (owner ∷ X) base len n hi cs
    → slot_start hi ≤ base → base + len ≤ length W' → length W' < 2 ^ 32 → ((j : ℕ) → j < base → wd W' j ≡ wd W j)
    → Holds κ W' (owner ∷ X) lo hi w u (in_reading κ cs)

module _ (W W' : List ℕ) (owner base len : ℕ) where
  pub opens-call : Opens W W' owner base len Calls (walk_of (list_from owner base len) Calls)
  unfolding in_reading
  opens-call κ X lo n hi cs u call (afresh e low) v below within small same =
      start-call W' (owner ∷ X) owner base len lo n hi cs v low below within

  pub opens-math : Opens W W' owner base len MathCalls (walk_of (list_from owner base len) MathCalls)
  unfolding in_reading
  opens-math κ X lo n hi cs u math_call (afresh e low) v below within small same =
      start-math W' (owner ∷ X) owner base len lo n hi cs v low below within

  pub opens-return : Opens W W' owner base len Returns (walk_of (list_from owner base len) Returns)
  unfolding in_reading
  opens-return κ X lo n hi cs u return_pass (afresh e low) v below within small same =
      start-return W' (owner ∷ X) owner base len lo n hi cs v low below within

  pub opens-level : (classes : TokenClasses) (q : ℕ)
      → Opens W W' owner base len (Binary classes q) (walk_of (list_from owner base len) (Binary classes 0))
  unfolding in_reading
  opens-level classes q κ X lo n hi cs u (level {ops = ops} h) (afresh e low) v below within small same =
      start-level W' (owner ∷ X) owner base len lo n hi cs v low below within ops classes {q = q} (level h)

  pub opens-conditional : (tokens : ℕ) → Opens W W' owner base len (Conditional tokens) (walk_of (list_from owner base len) (Conditional 0))
  unfolding in_reading
  opens-conditional tokens κ X lo n hi cs u conditional_pass (afresh e low) v below within small same =
      start-conditional W' (owner ∷ X) owner base len lo n hi cs v low below within

  pub opens-array : (a b : ℕ) → Opens W W' owner base len (Arrays a b) (walk_of (list_from owner base len) (Arrays b 0))
  unfolding in_reading
  opens-array a b κ X lo n hi cs u array (afresh e low) v below within small same =
      subst (λ (x : ℕ). Holds arrays W' (owner ∷ X) lo hi (walk_of (list_from owner base len) (Arrays x 0)) (begins arrays cs) cs) (sym e)
      (start-array W' (owner ∷ X) owner base len lo n hi cs v low below within)
  opens-array a b κ X lo n hi cs u array (lent {q = q} o h) v below within small same =
      let high = rep-le v.rep in
      let low = o.low in
      let up = o.high in
      start-lent W' (owner ∷ X) owner base len lo n hi cs v (omega arith) below within b q
      (open-array-keep W W' (λ s i x y z r. same (slot_start s + i) (omega arith)) o) h

  pub opens-unary : Opens W W' owner base len Unary
      (walk_of (record { owner = owner; base = base; len = len; read = len; write = len }) Unary)
  unfolding in_reading
  opens-unary κ X lo n hi cs u unary (afresh e low) v below within small same =
      start-unary W' (owner ∷ X) owner base len lo n hi cs v low below within

  pub opens-moved : (v : Items) → v ≡ moved_to (list_from owner base len) len len → Opens W W' owner base len Unary (walk_of v Unary)
  opens-moved v e = subst (λ (x : Items). Opens W W' owner base len Unary (walk_of x Unary)) (sym e) opens-unary

  pub opens-unsplit : (w : Walk) → Started W' (list_from owner base len) w → Opens W W' owner base len Unsplit w
  unfolding in_reading can-start
  opens-unsplit w st κ X lo n hi cs u unsplit_pass (afresh e low) v below within small same =
      st.holds (can-start W' (owner ∷ X) owner base len lo n hi cs v low below within small)

  pub opens-split : (done : ℕ) (w : Walk) → Started W' (list_from owner base len) w → Opens W W' owner base len (Split done) w
  unfolding in_reading can-start
  opens-split done w st κ X lo n hi cs u split (afresh e low) v below within small same =
      st.holds (can-start W' (owner ∷ X) owner base len lo n hi cs v low below within small)

module _ {W W' : List ℕ} {owner base len : ℕ} {p : Pass} (tk : Taken W (first_at W owner) base len W') (g : CanOpen W owner base p) where
  -- the children as an array
  taken-array : InArray W' (owner ∷ g.X) base len g.n g.hi g.cs
  taken-array = take-array tk g.below g.owned

  taken-count : len ≡ count g.cs
  taken-count = tk.count g.owned.cs g.owned.chain ∙ rep-count g.owned.kids

pub open-can-take : {W : List ℕ} {owner base : ℕ} {p : Pass} → CanOpen W owner base p → CanTake W (first_at W owner) base
open-can-take g = can-take g.owned g.own g.below g.room

opened : {W W' : List ℕ} {owner base len : ℕ} (p : Pass) (w : Walk) → Taken W (first_at W owner) base len W'
    → w.list.owner ≡ owner → w.list.base ≡ base → w.list.len ≡ len → classes_of w.pass ≡ classes_of p → Opens W W' owner base len p w
    → Opened W owner base p w W'
opened {W} {W'} {owner} {base} {len} p w tk eo eb el ec opens =
    record {
      owned = eo;
      based = eb;
      classes = ec;
      count = λ g. el ∙ taken-count tk g;
      holds = λ g.
          let long = tk.long in
          opens g.κ g.X g.lo g.n g.hi g.cs g.u g.runs g.begins (taken-array tk g) g.below
          (omega (arith, g.room, taken-count tk g)) (omega (arith, g.small)) (λ j h. tk.same j (inl h));
      same = λ j o. tk.same j (subst (λ (x : ℕ). (j < base) ⊎ (base + x ≤ j)) el o);
      long = tk.long;
    }

pub begins-low : {W X : List ℕ} {lo n : ℕ} {cs : Forest} {κ : Kind} {p : Pass} {u : State κ} → Begins W X lo n cs κ p u → lo ≤ n
begins-low (afresh e low) = low
begins-low (lent o h) = omega (arith, o.low, o.high)

open-can-start : {W W' : List ℕ} {owner base len : ℕ} {p : Pass} → Taken W (first_at W owner) base len W' → CanOpen W owner base p
    → CanStart W' (list_from owner base len)
open-can-start {W' = W'} {owner} {base} {len} tk g =
    let long = tk.long in
    can-start W' (owner ∷ g.X) owner base len g.lo g.n g.hi g.cs (taken-array tk g) (begins-low g.begins) g.below
    (omega (arith, g.room, taken-count tk g)) (omega (arith, g.small))

pub started-classes : {W : List ℕ} {v : Items} {w : Walk} → Started W v w → CanStart W v → classes_of w.pass ≡ 2
started-classes {W} {v} {w} st g = go w.pass (st.holds g).sides.runs
  where
    go : (p : Pass) → Runs statements p → classes_of p ≡ 2
    go p unsplit_pass = refl
    go p split = refl

-- ---- for the arms of `begin`

pub begin-can-start : {W : List ℕ} {owner base len : ℕ} {p : Pass} → CanBegin W owner base len p → CanStart W (list_from owner base len)
begin-can-start g = open-can-start g.taken g.opens

module _ {W : List ℕ} {owner base len : ℕ} where
  -- the statement pass, which has looked at the list
  started-by : (p : Pass) (w : Walk) → CanBegin W owner base len p → Started W (list_from owner base len) w → 2 ≡ classes_of p
      → ((before : List ℕ) → Opens before W owner base len p w) → Begun W owner base len p w
  started-by p w g st e opens =
      record {
        opened = λ h.
            opened p w h.taken (ap (λ (v : Items). v.owner) st.list) (ap (λ (v : Items). v.base) st.list)
            (ap (λ (v : Items). v.len) st.list)
            (started-classes st (begin-can-start g) ∙ e) (opens h.before);
      }

  pub begun-started : (p : Pass) (w : Walk) → OneOf (2 ∷ 3 ∷ []) (tag_of the_type p) → CanBegin W owner base len p
      → Started W (list_from owner base len) w
      → Begun W owner base len p w
  begun-started Calls w t g st = absurd (miss (2 ∷ 3 ∷ []) 0 tt t)
  begun-started MathCalls w t g st = absurd (miss (2 ∷ 3 ∷ []) 1 tt t)
  begun-started Unsplit w t g st = started-by Unsplit w g st refl (λ before. opens-unsplit before W owner base len w st)
  begun-started (Split done) w t g st = started-by (Split done) w g st refl (λ before. opens-split before W owner base len done w st)
  begun-started (Arrays a b) w t g st = absurd (miss (2 ∷ 3 ∷ []) 4 tt t)
  begun-started Unary w t g st = absurd (miss (2 ∷ 3 ∷ []) 5 tt t)
  begun-started (Binary classes pending) w t g st = absurd (miss (2 ∷ 3 ∷ []) 6 tt t)
  begun-started (Conditional tokens) w t g st = absurd (miss (2 ∷ 3 ∷ []) 7 tt t)
  begun-started Returns w t g st = absurd (miss (2 ∷ 3 ∷ []) 8 tt t)

  -- from the right
  pub begun-right : (p : Pass) (v : Items) → p ≡ Unary → v ≡ moved_to (list_from owner base len) len len
      → Begun W owner base len p (walk_of v Unary)
  begun-right p v e m =
      subst (λ (x : Pass). Begun W owner base len x (walk_of v Unary)) (sym e)
      (record {
        opened = λ g.
            opened Unary (walk_of v Unary) g.taken (ap (λ (x : Items). x.owner) m) (ap (λ (x : Items). x.base) m)
            (ap (λ (x : Items). x.len) m) refl
            (opens-moved g.before W owner base len v m);
      })

  -- every other pass
  begun_first : (p : Pass) → OneOf (0 ∷ 1 ∷ 4 ∷ 6 ∷ 7 ∷ 8 ∷ []) (tag_of the_type p)
      → Begun W owner base len p (walk_of (list_from owner base len) (begun_of p))
  unfolding begun_of
  begun_first Calls t = record { opened = λ g. opened Calls _ g.taken refl refl refl refl (opens-call g.before W owner base len) }
  begun_first MathCalls t =
      record {
        opened = λ g. opened MathCalls _ g.taken refl refl refl refl (opens-math g.before W owner base len);
      }
  begun_first Unsplit t = absurd (miss (0 ∷ 1 ∷ 4 ∷ 6 ∷ 7 ∷ 8 ∷ []) 2 tt t)
  begun_first (Split done) t = absurd (miss (0 ∷ 1 ∷ 4 ∷ 6 ∷ 7 ∷ 8 ∷ []) 3 tt t)
  begun_first (Arrays a b) t =
      record { opened = λ g. opened (Arrays a b) _ g.taken refl refl refl refl (opens-array g.before W owner base len a b) }
  begun_first Unary t = absurd (miss (0 ∷ 1 ∷ 4 ∷ 6 ∷ 7 ∷ 8 ∷ []) 5 tt t)
  begun_first (Binary classes pending) t =
      record {
        opened =
            λ g.
            opened (Binary classes pending) _ g.taken refl refl refl refl (opens-level g.before W owner base len classes pending);
      }
  begun_first (Conditional tokens) t =
      record {
        opened = λ g. opened (Conditional tokens) _ g.taken refl refl refl refl (opens-conditional g.before W owner base len tokens);
      }
  begun_first Returns t =
      record {
        opened = λ g. opened Returns _ g.taken refl refl refl refl (opens-return g.before W owner base len);
      }

  pub begun-as : (p q : Pass) → OneOf (0 ∷ 1 ∷ 4 ∷ 6 ∷ 7 ∷ 8 ∷ []) (tag_of the_type p) → q ≡ begun_of p
      → Begun W owner base len p (walk_of (list_from owner base len) q)
  begun-as p q t e = subst (λ (x : Pass). Begun W owner base len p (walk_of (list_from owner base len) x)) (sym e) (begun_first p t)
