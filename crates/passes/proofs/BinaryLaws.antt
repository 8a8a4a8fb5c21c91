-- The binary levels: an operator takes the last done tree and the next one as its children.
use Prim.Native.Nat.{ℕ, ◌+◌, ◌-◌, ◌^◌, ◌≤◌, ◌<◌}
use mathlib.Core.{Path.{◌≡◌, refl, sym, ap, ◌∙◌, subst}, Logic.{◌≢◌, inl, inr, ⊎_elim}, Bool.{Bool, true, false, not, true≢false}}
use mathlib.Core.{List.{List, [], ◌∷◌}, Option.{Option, none, some}}
use native.Mathlib.{Omega.{arith}, Nat.{le_refl}}
use lib.ListN.{length, set}
use Rattle.molang.specs.{Operator.{is_one_of}, Forest.{Token, Forest, nil, node, count, size}, Message.{binary_at_end, Result, ok, fail}}
use Rattle.molang.specs.Level.{on, walk, through, Gathered, gathered, waiting, nothing}
use Rattle.molang.specs.Binary.{first_leaf, unfolded, joined, operator_after, binary_step, binary_resume, binary_finish, binary_level}
use Rattle.molang.specs.{Free.{free, clear, is_nil}, Work.{Kind, binary, State, work, begins, in_reading, takes, and_then}}
use Rattle.molang.proofs.{Trees.{some-none, free-leaf, leaf-clear, clear-leaf, clear-rest, clear-tree}, Binary.{binary-inert, binary-free}}
use Rattle.molang.proofs.Unfolded.{free-first_leaf}
use Rattle.ops.specs.{Classes.{shares}, declared.classes.TokenClasses.{TokenClasses}}
use Rattle.nodes.specs.Store.{wd, slot_start, slot_end, classes_at, SegB, RepT, RepB, begins as starts, put}
use Rattle.nodes.{specs.declared.frames.List.{List as Items}, proofs.Runs.{set_same, set_other, set_long}}
use Rattle.nodes.{proofs.Store.{tree-below, tree-out, back-le}, proofs.Trees.{tree-under, attach-two-trees, attach-two-kept}}
use Rattle.levels.specs.{Passes.{walk_of, moved_to, Covers, Runs, level, waits}, Items.{BackArray, Ahead, Passed, here, over, inner_at}}
use Rattle.levels.specs.Sides.{LevelSide, all, operator, Holds, Waits}
use Rattle.levels.specs.{Turns.{CanResume, Resumed, Within, afresh, TurnTo, goes, enters, fails}, Failures.{Tells}}
use Rattle.levels.specs.{declared.failure.Failure.TheVariants.{BinaryAtEnd}, declared.turns.Pass.TheVariants.{Binary}}
use Rattle.levels.specs.{declared.turns.Turn.{Turn}, declared.turns.Turn.TheVariants.{On, Enter}}
use Rattle.std.specs.Prelude.{Ok, Err}
use Rattle.levels.proofs.Reading.{back-array-keep, ahead-keep, ahead-le, ahead-end, array-put, AheadTo, item, ahead-item, inner-tree}
use Rattle.levels.proofs.{Reading.{tree_free, free-tree-below, same-within}, States.{sides-of}}
use Rattle.passes.specs.TokenTurns.{AtItem, AtToken, LevelTurned, Saying}
use Rattle.passes.specs.Binary.{left_of, CanFold, Folded, CanSearch, LeafFound, CanOperate, Operated, opens, folds}
use Rattle.passes.proofs.GatherLaws.{next-room, walk-node, walk-passed, LeftLevel, item-bounds, item-holds, kept-within, Stands}
use Rattle.passes.proofs.GatherLaws.{stands, Standing}

-- ---- the level

level-node : (ops : List ℕ) (d : Forest) (k : Token) (cs rest : Forest) → is_nil cs ≡ false
    → work (binary ops) (gathered d) (node k cs rest)
    ≡ and_then (work (binary ops) (begins (binary ops) cs) (in_reading (binary ops) cs))
    (λ kids. work (binary ops) (takes (binary ops) (gathered d) k kids) rest)
unfolding work begins in_reading takes through binary_level binary_resume is_nil
level-node ops d k nil rest e = absurd (true≢false e)
level-node ops d k (node c cs r) rest e = walk-node (binary_level ops) (is_one_of ops) (binary-inert ops) d k c cs r rest

free-onto : (P : ℕ → Bool) (k : Token) (cs d : Forest) → free P (node k cs nil) ≡ true → clear P d ≡ true → clear P (node k cs d) ≡ true
unfolding clear
free-onto P k nil d h e = leaf-clear P k d (free-leaf P k nil h).0 e
free-onto P k (node c cs r) d h e = e

passed-clear : (P : ℕ → Bool) {d rest d' rest' : Forest} → Passed P d rest d' rest' → clear P d ≡ true → clear P d' ≡ true
passed-clear P here e = e
passed-clear P (over {d = d} {cs = cs} {k = k} h p) e = passed-clear P p (free-onto P k cs d h e)

level-of : (ops : List ℕ) (classes : TokenClasses) → Covers classes.0 (is_one_of ops)
    → LeftLevel (binary ops) (Binary classes 0) (is_one_of ops) gathered (clear (is_one_of ops))
unfolding work begins waits binary_level nothing
level-of ops classes covers =
    record {
      covers = covers;
      sides = λ fine done ahead low mid high below within. sides-of (level covers) (all fine done) ahead tt low mid high below within;
      turning = λ v h. (refl, h);
      framed = λ v h. h;
      calm = λ d. refl;
      unlent = refl;
      fresh = λ cs. refl;
      passes = λ p. walk-passed (binary_level ops) (is_one_of ops) (binary-inert ops) p;
      keeps = λ p h. passed-clear (is_one_of ops) p h;
      node = level-node ops;
    }

module _ {T : Saying} (W : List ℕ) (v : Items) (classes : TokenClasses) where
  open-side : (ops : List ℕ) → Covers classes.0 (is_one_of ops) → T (binary ops) gathered (is_one_of ops) (clear (is_one_of ops))
      → {X : List ℕ} {lo l m hi : ℕ} {s : Gathered} {rest : Forest} → LevelSide W X v.base v.write lo l ops (Binary classes 0) s
      → Ahead W X v.base v.read v.len m hi rest
      → l ≤ m → v.write ≤ v.read → slot_start hi ≤ v.base → v.base + v.len ≤ length W → length W < 2 ^ 32
      → Stands T W v (Binary classes 0) (binary ops) X lo hi s rest
  open-side ops covers t (all fine done) ahead mid behind below within small =
      stands (level-of ops classes covers) t fine done ahead mid behind below within small
  open-side ops covers t (operator fine done full clean tree) ahead mid behind below within small = absurd (omega (arith, tree.pos))

  pub level-stands : ((ops : List ℕ) → Covers classes.0 (is_one_of ops) → T (binary ops) gathered (is_one_of ops) (clear (is_one_of ops)))
      → Standing T W v (Binary classes 0)
  level-stands t g = go g.holds.sides.runs g.holds
    where
      go : {κ : Kind} {X : List ℕ} {lo hi : ℕ} {s : State κ} {rest : Forest} → Runs κ (Binary classes 0)
          → Holds κ W X lo hi (walk_of v (Binary classes 0)) s rest → Stands T W v (Binary classes 0) κ X lo hi s rest
      go (level {ops = ops} covers) h =
          open-side ops covers (t ops covers) h.sides.done h.sides.unread h.sides.mid h.turning.1 h.sides.below
          h.sides.within g.small

-- ---- an operator's turn, in the definition

module _ (ops : List ℕ) where
  operator-waits : (d : Forest) (k : Token) → is_one_of ops k.op ≡ true → is_nil d ≡ false
      → binary_step ops (gathered d) k nil ≡ on (waiting d k)
  unfolding binary_step operator_after is_nil
  operator-waits nil k p n = absurd (true≢false n)
  operator-waits (node l ls d) k p n = rw (p, binary_step) refl

  -- nothing stands before it
  operator-first : (k : Token) (rest : Forest) → is_one_of ops k.op ≡ true
      → work (binary ops) (gathered nil) (node k nil rest) ≡ fail (binary_at_end k ∷ [])
  operator-first k rest p = unfold work walk binary_level binary_step operator_after in rw (p, binary_step, walk) refl

  -- nothing comes after it
  operator-last : (d : Forest) (k : Token) → is_one_of ops k.op ≡ true
      → work (binary ops) (gathered d) (node k nil nil) ≡ fail (binary_at_end k ∷ [])
  unfolding work walk binary_level binary_finish is_nil
  operator-last nil k p = operator-first k nil p
  operator-last (node l ls d) k p = rw (operator-waits (node l ls d) k p refl, walk) refl

  -- an operator is left below its left side
  operator-again : (d : Forest) (k t x : Token) (xs rest : Forest) → is_one_of ops k.op ≡ true → is_nil d ≡ false → unfolded ops d ≡ some t
      → work (binary ops) (gathered d) (node k nil (node x xs rest)) ≡ fail (binary_at_end t ∷ [])
  unfolding work walk binary_level binary_step
  operator-again d k t x nil rest p n u = rw (operator-waits d k p n, walk) (rw (u, binary_step, walk) refl)
  operator-again d k t x (node c cs r) rest p n u = rw (operator-waits d k p n, walk) (rw (u, binary_step, walk) refl)

  -- the children of its right side come first
  operator-enters : (d : Forest) (k x : Token) (xs rest : Forest) → is_one_of ops k.op ≡ true → is_nil d ≡ false → unfolded ops d ≡ none
      → is_nil xs ≡ false
      → work (binary ops) (gathered d) (node k nil (node x xs rest))
      ≡ and_then (work (binary ops) (begins (binary ops) xs) (in_reading (binary ops) xs))
      (λ kids. work (binary ops) (takes (binary ops) (waiting d k) x kids) rest)
  unfolding work begins in_reading takes walk binary_level nothing binary_step is_nil and_then
  operator-enters d k x nil rest p n u f = absurd (true≢false f)
  operator-enters d k x (node c cs r) rest p n u f =
      rw (operator-waits d k p n, walk) (rw (u, binary_step, walk) (go (walk (binary_level ops) (gathered nil) (node c cs r))))
    where
      go : (y : Result) → elim y [ fail m ↦ fail m | ok kids ↦ walk (binary_level ops) (binary_resume (waiting d k) x kids) rest ]
          ≡ and_then y (λ kids. walk (binary_level ops) (binary_resume (waiting d k) x kids) rest)
      go (fail m) = refl
      go (ok kids) = refl

  -- a right side without operators is taken as it is
  operator-folds : (d : Forest) (k x : Token) (xs rest : Forest) → is_one_of ops k.op ≡ true → is_nil d ≡ false → unfolded ops d ≡ none
      → (is_nil xs ≡ false → free (is_one_of ops) xs ≡ true)
      → work (binary ops) (gathered d) (node k nil (node x xs rest)) ≡ work (binary ops) (gathered (joined d k x xs)) rest
  unfolding work begins in_reading takes through walk binary_level nothing binary_step binary_resume is_nil and_then
  operator-folds d k x nil rest p n u h = rw (operator-waits d k p n, walk) (rw (u, binary_step, walk) refl)
  operator-folds d k x (node c cs r) rest p n u h =
      operator-enters d k x (node c cs r) rest p n u refl
      ∙ ap (λ (y : Result). and_then y (λ kids. work (binary ops) (takes (binary ops) (waiting d k) x kids) rest))
      (binary-free ops (node c cs r) (h refl))

-- ---- an operator takes its sides, in the words

back_full : {W X : List ℕ} {at n lo a : ℕ} {d : Forest} → BackArray W X at n lo a d → 0 < n → is_nil d ≡ false
unfolding is_nil
back_full {W} {X} {at} {n} {lo} {a} v h = go v.ds v.rep v.count
  where
    go : {d : Forest} (ds : List ℕ) → RepB W X ds lo a d → n ≡ length ds → is_nil d ≡ false
    go [] (starts e) c = absurd (omega arith)
    go (b ∷ ds) (put r t e) c = refl

back_none : {W X : List ℕ} {at n lo a : ℕ} {d : Forest} → BackArray W X at n lo a d → n ≡ 0 → d ≡ nil
back_none {W} {X} {at} {n} {lo} {a} v h = go v.ds v.rep v.count
  where
    go : {d : Forest} (ds : List ℕ) → RepB W X ds lo a d → n ≡ length ds → d ≡ nil
    go [] (starts e) c = refl
    go (b ∷ ds) (put r t e) c = absurd (omega arith)

-- The last done tree, at the slot b.
data Last (W X : List ℕ) (v : Items) (lo a b : ℕ) : Forest → Type 0 where
  last : {p m n : ℕ} {l : Token} {ls d : Forest} → v.write ≡ n + 1 → BackArray W X v.base n lo p d → RepT W X b p m l ls → m ≤ a
      → Last W X v lo a b (node l ls d)

back_last : {W X : List ℕ} (v : Items) {lo a : ℕ} {d : Forest} → BackArray W X v.base v.write lo a d → is_nil d ≡ false
    → Last W X v lo a (left_of W v) d
unfolding is_nil
back_last {W} {X} v {lo} {a} w full = go w.ds w.rep w.seg w.count full
  where
    go : {d : Forest} (ds : List ℕ) → RepB W X ds lo a d → SegB W v.base ds → v.write ≡ length ds → is_nil d ≡ false
        → Last W X v lo a (left_of W v) d
    go [] (starts e) g c n = absurd (true≢false n)
    go (b ∷ ds) (put {l = p} {m = m} {d = d} {t = t} {k = k} r tree e) g c n =
        let at : v.base + length ds ≡ v.base + v.write - 1 = omega arith in
        let same : b ≡ left_of W v = sym g.0 ∙ ap (λ (i : ℕ). wd W i) at in
        last {n = length ds} (omega arith) (record { ds = ds; seg = g.1; count = refl; rep = r })
        (subst (λ (x : ℕ). RepT W X x p m t k) same tree) e

record FoldDone (W W' X : List ℕ) (v : Items) (lo m hi : ℕ) (d : Forest) (q x : Token) (xs rest : Forest) : Type 0 where
  done : BackArray W' X v.base v.write lo m (joined d q x xs)
  ahead : Ahead W' X v.base v.read v.len m hi rest
  within : Within W W' X lo hi v

module _ {W X : List ℕ} {v : Items} {q c lo a m0 l m hi : ℕ} {d : Forest} {kq x : Token} {xs rest : Forest} (full : is_nil d ≡ false)
    (done : BackArray W X v.base v.write lo a d) (own : RepT W X q a m0 kq nil) (right : RepT W X c l m x xs) (apart : m0 ≤ l)
    (ahead : Ahead W X v.base v.read v.len m hi rest) (behind : v.write ≤ v.read) (below : slot_start hi ≤ v.base)
    (inside : v.base + v.len ≤ length W) where
  can-fold : CanFold W v q c
  can-fold = go (back_last v done full)
    where
      go : {d : Forest} → Last W X v lo a (left_of W v) d → CanFold W v q c
      go (last e back left h) =
          let le =
          ahead-le ahead in let ol =
          own.low in let oh = tree-below own in let rl = right.low in let rh = tree-below right in let lh = tree-below left in
          record { some = omega arith; room = omega arith; own = omega arith; left = omega arith; right = omega arith; apart = omega arith }

  fold_done : {W' : List ℕ} → Folded W v q c W' → FoldDone W W' X v lo m hi d kq x xs rest
  unfolding joined
  fold_done {W'} w = go (back_last v done full)
    where
      go : {d : Forest} → Last W X v lo a (left_of W v) d → FoldDone W W' X v lo m hi d kq x xs rest
      go (last {p = p} {m = lm} {n = n} {l = t} {ls = ts} {d = d} e back left h) =
          let b = left_of W v in
          let le =
          ahead-le ahead in let ol =
          own.low in let oh =
          tree-below own in let rl = right.low in let rh = tree-below right in let lh = tree-below left in let ll = left.low in
          let bl = back-le back.rep in
          let two = w.two in
          let Z = w.mid in
          let at : v.base + v.write - 1 ≡ v.base + n = omega arith in
          let stored : W' ≡ set Z (v.base + n) q = subst (λ (i : ℕ). W' ≡ set Z i q) at w.put in
          let left' = tree-under q (inr (omega arith)) left in
          let right' = tree-under q (inl (omega arith)) right in
          let out = tree-out own in
          let pq : p ≤ q = omega arith in let qm : q < m = omega arith in let lr : lm ≤ l = omega arith in
          let tree : RepT Z X q p m kq (node t ts (node x xs nil)) =
          attach-two-trees two left' right' lr own.token own.pos out pq qm (le_refl p) (le_refl m) in
          let kept : BackArray Z X v.base n lo p d
          =
          back-array-keep W Z (λ s o x y z u. two.same (slot_start s + o) (omega arith) (omega arith) (omega arith) (omega arith))
          (λ j x y. two.same j (omega arith) (omega arith) (omega arith) (omega arith)) back in
          let other = set_other Z W' (v.base + n) q stored in
          let new : BackArray W' X v.base (n + 1) lo m (node kq (node t ts (node x xs nil)) d)
          =
          array-put Z W' kept tree (le_refl p) (le_refl m) (λ s o x y z u. other (slot_start s + o) (omega arith))
          (λ j x y. other j (omega arith)) (set_same Z W' (v.base + n) q stored (omega (arith, two.long))) in
          record {
            done = subst (λ (i : ℕ). BackArray W' X v.base i lo m (node kq (node t ts (node x xs nil)) d)) (sym e) new;
            ahead =
                ahead-keep W W'
                (λ s o x y z u. other (slot_start s + o) (omega arith)
                ∙ two.same (slot_start s + o) (omega arith) (omega arith) (omega arith) (omega arith))
                (λ j x y. other j (omega arith) ∙ two.same j (omega arith) (omega arith) (omega arith) (omega arith)) ahead;
            within = record {
              kept =
                  λ j f o.
                  other j (⊎_elim (λ y. omega arith) (λ y. omega arith) o)
                  ∙ attach-two-kept {lo = lo} {hi = hi} two left' right' lr out (omega arith) (omega arith) (omega arith)
                  (omega arith) j f;
              long = set_long Z W' (v.base + n) q stored ∙ two.long;
            };
          }

joined-clear : (P : ℕ → Bool) (d : Forest) (q x : Token) (xs : Forest) → is_nil d ≡ false → clear P d ≡ true
    → clear P (joined d q x xs) ≡ true
unfolding is_nil joined clear
joined-clear P nil q x xs n h = absurd (true≢false n)
joined-clear P (node l ls d) q x xs n h = clear-rest P l ls d h

-- the list after a fold
fold-holds : {W W' X : List ℕ} {v : Items} {lo m hi : ℕ} {d : Forest} {q x : Token} {xs rest : Forest} (ops : List ℕ)
    (classes : TokenClasses)
    → Covers classes.0 (is_one_of ops)
    → FoldDone W W' X v lo m hi d q x xs rest → clear (is_one_of ops) (joined d q x xs) ≡ true → v.write ≤ v.read → slot_start hi ≤ v.base
    → v.base + v.len ≤ length W
    → Holds (binary ops) W' X lo hi (walk_of v (Binary classes 0)) (gathered (joined d q x xs)) rest
fold-holds {v = v} {m = m} ops classes covers f fine behind below within =
    let L = level-of ops classes covers in
    record {
      l = m;
      m = m;
      sides =
          L.sides fine f.done f.ahead (back-le f.done.rep) (le_refl m) (ahead-le f.ahead).0 below
          (omega (arith, f.within.long, within));
      turning = L.turning v behind;
    }

-- ---- `resume`

module _ {W : List ℕ} {v : Items} {b : ℕ} (classes : TokenClasses) where
  side-kept : {W' X : List ℕ} {lo l m hi pending : ℕ} {t : Gathered} {k : Token} {kids rest : Forest} (ops : List ℕ)
      → Covers classes.0 (is_one_of ops) → pending ≡ 0 → W' ≡ set W (v.base + v.write) b
      → LevelSide W X v.base v.write lo l ops (Binary classes pending) t → Ahead W X v.base v.read v.len m hi rest
      → RepT W X b l m k kids → is_nil kids ≡ false
      → v.write < v.read → slot_start hi ≤ v.base → v.base + v.len ≤ length W → length W < 2 ^ 32
      → Holds (binary ops) W' X lo hi (walk_of (moved_to v v.read (v.write + 1)) (Binary classes 0)) (takes (binary ops) t k kids) rest
      × Within W W' X lo hi v
  unfolding takes binary_level binary_resume
  side-kept {W'} {X} {lo} {l} {m} {hi} {k = k} {kids = kids} {rest = rest} ops covers z s
      (all {d = d} fine done) ahead tree full behind below within small =
      let i : AtItem W X v b lo hi d k kids rest =
      record { a = l; m = m; done = done; tree = tree; ahead = ahead; behind = behind; below = below; within = within; small = small } in
      (item-holds (level-of ops classes covers) i s (clear-tree (is_one_of ops) k kids d full fine), kept-within W W' i s)
  side-kept ops covers z s (operator fine done full' clean q) ahead tree full behind below within small = absurd (omega (arith, q.pos))

  side-folds : {X : List ℕ} {lo l m hi pending : ℕ} {t : Gathered} {k : Token} {kids rest : Forest} (ops : List ℕ) → pending ≢ 0
      → LevelSide W X v.base v.write lo l ops (Binary classes pending) t → Ahead W X v.base v.read v.len m hi rest
      → RepT W X b l m k kids
      → v.write < v.read → slot_start hi ≤ v.base → v.base + v.len ≤ length W → CanFold W v pending b
  side-folds ops n (all fine done) ahead tree behind below within = absurd (n refl)
  side-folds {l = l} ops n (operator fine done full clean q) ahead tree behind below within =
      can-fold full done q tree (le_refl l) ahead (omega arith) below within

  side-folded : {W' X : List ℕ} {lo l m hi pending : ℕ} {t : Gathered} {k : Token} {kids rest : Forest} (ops : List ℕ)
      → Covers classes.0 (is_one_of ops) → pending ≢ 0 → Folded W v pending b W'
      → LevelSide W X v.base v.write lo l ops (Binary classes pending) t → Ahead W X v.base v.read v.len m hi rest
      → RepT W X b l m k kids
      → v.write < v.read → slot_start hi ≤ v.base → v.base + v.len ≤ length W
      → Holds (binary ops) W' X lo hi (walk_of v (Binary classes 0)) (takes (binary ops) t k kids) rest × Within W W' X lo hi v
  unfolding takes binary_level binary_resume
  side-folded ops covers n w (all fine done) ahead tree behind below within = absurd (n refl)
  side-folded {l = l} {k = k} {kids = kids} ops covers n w
      (operator {d = d} {q = kq} fine done full clean q) ahead tree behind below within =
      let f = fold_done full done q tree (le_refl l) ahead (omega arith) below within w in
      (fold-holds ops classes covers f (joined-clear (is_one_of ops) d kq k kids full fine) (omega arith) below within, f.within)

  pub resume-room : {pending : ℕ} → CanResume W (walk_of v (Binary classes pending)) b → v.base + v.write < length W
  resume-room {pending} g = go g.waits.sides.runs g.waits
    where
      go : {κ : Kind} {X : List ℕ} {lo l m hi : ℕ} {t : State κ} {rest : Forest} → Runs κ (Binary classes pending)
          → Waits κ W X lo l m hi (walk_of v (Binary classes pending)) t rest → v.base + v.write < length W
      go (level covers) h = omega (arith, h.framed, ahead-le h.sides.unread, h.sides.within)

  pub resume-folds : {pending : ℕ} → pending ≢ 0 → CanResume W (walk_of v (Binary classes pending)) b → CanFold W v pending b
  resume-folds {pending} n g = go g.waits.sides.runs g.waits g.tree
    where
      go : {κ : Kind} {X : List ℕ} {lo l m hi : ℕ} {t : State κ} {rest kids : Forest} {k : Token} → Runs κ (Binary classes pending)
          → Waits κ W X lo l m hi (walk_of v (Binary classes pending)) t rest
          → RepT W X b l m k kids → CanFold W v pending b
      go (level {ops = ops} covers) h tree =
          side-folds ops n h.sides.done h.sides.unread tree h.framed h.sides.below h.sides.within

  kept_by : {pending : ℕ} {W' : List ℕ} → pending ≡ 0 → W' ≡ set W (v.base + v.write) b
      → (g : CanResume W (walk_of v (Binary classes pending)) b)
      → Holds g.κ W' g.X g.lo g.hi (walk_of (moved_to v v.read (v.write + 1)) (Binary classes 0))
      (takes g.κ g.t g.k g.kids) g.rest × Within W W' g.X g.lo g.hi v
  kept_by {pending} {W'} z s g = go g.waits.sides.runs g.waits g.tree g.full
    where
      go : {κ : Kind} {X : List ℕ} {lo l m hi : ℕ} {t : State κ} {rest kids : Forest} {k : Token} → Runs κ (Binary classes pending)
          → Waits κ W X lo l m hi (walk_of v (Binary classes pending)) t rest
          → RepT W X b l m k kids → is_nil kids ≡ false
          → Holds κ W' X lo hi (walk_of (moved_to v v.read (v.write + 1)) (Binary classes 0)) (takes κ t k kids) rest
          × Within W W' X lo hi v
      go (level {ops = ops} covers) h tree full =
          side-kept ops covers z s h.sides.done h.sides.unread tree full h.framed h.sides.below h.sides.within g.small

  folded-by : {pending : ℕ} {W' : List ℕ} → pending ≢ 0 → Folded W v pending b W' → (g : CanResume W (walk_of v (Binary classes pending)) b)
      → Holds g.κ W' g.X g.lo g.hi (walk_of v (Binary classes 0)) (takes g.κ g.t g.k g.kids) g.rest
      × Within W W' g.X g.lo g.hi v
  folded-by {pending} {W'} n w g = go g.waits.sides.runs g.waits g.tree
    where
      go : {κ : Kind} {X : List ℕ} {lo l m hi : ℕ} {t : State κ} {rest kids : Forest} {k : Token} → Runs κ (Binary classes pending)
          → Waits κ W X lo l m hi (walk_of v (Binary classes pending)) t rest
          → RepT W X b l m k kids
          → Holds κ W' X lo hi (walk_of v (Binary classes 0)) (takes κ t k kids) rest × Within W W' X lo hi v
      go (level {ops = ops} covers) h tree =
          side-folded ops covers n w h.sides.done h.sides.unread tree h.framed h.sides.below h.sides.within

  pub resumed-kept : {pending : ℕ} {W' : List ℕ} (l : Items) → pending ≡ 0 → W' ≡ set W (v.base + v.write) b
      → l ≡ moved_to v v.read (v.write + 1)
      → Resumed W (walk_of v (Binary classes pending)) b (walk_of l (Binary classes 0)) W'
  resumed-kept l z s el =
      rw el
      (record {
        list = record { owner = refl; base = refl; len = refl; classes = refl };
        holds = λ g. (kept_by z s g).0;
        within = λ g. (kept_by z s g).1;
      })

  pub resumed-folded : {pending : ℕ} {W' : List ℕ} → pending ≢ 0 → Folded W v pending b W'
      → Resumed W (walk_of v (Binary classes pending)) b (walk_of v (Binary classes 0)) W'
  resumed-folded n w =
      record {
        list = record { owner = refl; base = refl; len = refl; classes = refl };
        holds = λ g. (folded-by n w g).0;
        within = λ g. (folded-by n w g).1;
      }

-- ---- `folded`, `operator`

-- nothing unfolded is below the left side
left-clean : {W X : List ℕ} {v : Items} {lo a : ℕ} {d : Forest} (c : ℕ) (ops : List ℕ) → Covers c (is_one_of ops)
    → Last W X v lo a (left_of W v) d → shares (classes_at W (left_of W v)) c ≡ false
    → unfolded ops d ≡ none
unfolding unfolded
left-clean c ops covers (last {l = l} {ls = ls} e back left h) s = go ls (tree_free c (is_one_of ops) covers left s)
  where
    go : (ls : Forest) → free (is_one_of ops) (node l ls nil) ≡ true → first_leaf ops ls ≡ none
    go nil f = unfold first_leaf in refl
    go (node x xs y) f = free-first_leaf ops (node x xs y) (free-tree-below (is_one_of ops) l (node x xs y) (unfold is_nil in refl) f)

-- the first leaf at or below the left side is below it: the left side itself is no operator
left-unfolded : (ops : List ℕ) (l t : Token) (ls d : Forest) → clear (is_one_of ops) (node l ls d) ≡ true
    → first_leaf ops (node l ls nil) ≡ some t → unfolded ops (node l ls d) ≡ some t
unfolding unfolded first_leaf
left-unfolded ops l t nil d h e = some-none (sym e ∙ rw ((clear-leaf (is_one_of ops) l d h).0, first_leaf) refl)
left-unfolded ops l t (node x xs y) d h e = go (first_leaf ops (node x xs y)) e
  where
    go : (o : Option Token) → ◌≡◌ {A = Option Token} (elim o [ some t ↦ some t | none ↦ none ]) (some t) → o ≡ some t
    go none z = z
    go (some u) z = z

inner-free : (P : ℕ → Bool) (xs : Forest) → elim (is_nil xs) [ true ↦ false | false ↦ not (free P xs) ] ≡ false → is_nil xs ≡ false
    → free P xs ≡ true
unfolding is_nil
inner-free P nil e n = absurd (true≢false n)
inner-free P (node c cs r) e n = go (free P (node c cs r)) e
  where
    go : (b : Bool) → not b ≡ false → b ≡ true
    go true z = refl
    go false z = absurd (true≢false z)

inner-full : (P : ℕ → Bool) (xs : Forest) → elim (is_nil xs) [ true ↦ false | false ↦ not (free P xs) ] ≡ true → is_nil xs ≡ false
unfolding is_nil
inner-full P nil e = absurd (true≢false (sym e))
inner-full P (node c cs r) e = refl

-- an operator is left below the left side
again-at : {W X : List ℕ} {v : Items} {lo a hi m s : ℕ} {d : Forest} {k : Token} {rest : Forest} (classes : TokenClasses) (ops : List ℕ)
    → Covers classes.0 (is_one_of ops) → slot_start a ≤ length W → is_one_of ops k.op ≡ true → clear (is_one_of ops) d ≡ true
    → shares (classes_at W (left_of W v)) classes.0 ≡ true
    → LeafFound W (left_of W v) classes.0 s → Last W X v lo a (left_of W v) d
    → AheadTo W X v.base v.read v.len m hi (wd W (v.base + v.read)) rest
    → TurnTo (binary ops) W X lo hi (walk_of v (Binary classes 0)) (gathered d) (node k nil rest) (Err (BinaryAtEnd s))
unfolding is_nil
again-at {W} {X} {v} {k = k} classes ops covers room p fine sh found (last {p = lp} {m = lm} {l = l} {ls = ls} {d = d} e back left h)
    (item {k = x} {cs = xs} {rest = rest} low t r) =
    let g : CanSearch W (left_of W v) classes.0 =
    record { X = X; a = lp; m = lm; k = l; cs = ls; tree = left; within = omega arith; some = sh } in
    let f = found g ops covers in
    fails (Tells.binary_at_end f.token)
    (operator-again ops (node l ls d) k f.t x xs rest p refl (left-unfolded ops l f.t ls d fine f.first))

module _ {W : List ℕ} {v : Items} {b : ℕ} (classes : TokenClasses) (ops : List ℕ) (covers : Covers classes.0 (is_one_of ops)) where
  -- the operator waits for the children of its right side
  right-enters : {X : List ℕ} {lo hi : ℕ} {d : Forest} {k : Token} {rest : Forest} (i : AtItem W X v b lo hi d k nil rest)
      → is_one_of ops k.op ≡ true → clear (is_one_of ops) d ≡ true → is_nil d ≡ false
      → unfolded ops d ≡ none → inner_at W (wd W (v.base + v.read)) classes.0 ≡ true → {m : ℕ} → i.m ≡ m
      → AheadTo W X v.base v.read v.len m hi (wd W (v.base + v.read)) rest
      → TurnTo (binary ops) W X lo hi (walk_of v (Binary classes 0)) (gathered d) (node k nil rest)
      (Ok (Enter (walk_of (moved_to v (v.read + 1) v.write) (Binary classes b)) (wd W (v.base + v.read))))
  unfolding count size waits begins binary_level nothing
  right-enters {X} {lo} {hi} {d} {k} i p fine full clean inner em (item {a = n} {m = m'} {k = x} {cs = xs} {rest = rest} low t r) =
      let z =
      item-bounds i in let behind = i.behind in let tl = t.low in let th = tree-below t in let le = ahead-le r in let below = i.below in
      let nonempty = inner-full (is_one_of ops) xs (sym (inner-tree xs classes.0 (is_one_of ops) covers t) ∙ inner) in
      enters {l = i.m} {n = n} {m = m'} {t = waiting d k} {u = begins (binary ops) xs}
      (record { owner = refl; base = refl; len = refl; classes = refl })
      (record {
        sides = sides-of (level covers) (operator fine i.done full clean i.tree) r tt (omega arith) (omega arith) (omega arith) below
            i.within;
        framed = omega arith;
      })
      t nonempty (afresh refl (omega arith)) (operator-enters ops d k x xs rest p full clean nonempty) (omega arith) (omega arith)
      (omega arith) (omega arith)

  right-folds : {W' X : List ℕ} {lo hi : ℕ} {d : Forest} {k : Token} {rest : Forest} (i : AtItem W X v b lo hi d k nil rest)
      → is_one_of ops k.op ≡ true → clear (is_one_of ops) d ≡ true → is_nil d ≡ false
      → unfolded ops d ≡ none → inner_at W (wd W (v.base + v.read)) classes.0 ≡ false → Folded W v b (wd W (v.base + v.read)) W'
      → {m : ℕ} → i.m ≡ m
      → AheadTo W X v.base v.read v.len m hi (wd W (v.base + v.read)) rest
      → TurnTo (binary ops) W' X lo hi (walk_of v (Binary classes 0)) (gathered d) (node k nil rest)
      (Ok (On (walk_of (moved_to v (v.read + 1) v.write) (Binary classes 0))))
  unfolding count size waits
  right-folds {X = X} {lo} {hi} {d} {k} i p fine full clean inner w em (item {a = n} {m = m'} {k = x} {cs = xs} {rest = rest} low t r) =
      let behind = i.behind in
      let f =
      fold_done {v = moved_to v (v.read + 1) v.write} full i.done i.tree t (omega arith) r (omega arith) i.below i.within
      (record { mid = w.mid; two = w.two; put = w.put }) in
      goes {s' = gathered (joined d k x xs)} (record { owner = refl; base = refl; len = refl; classes = refl })
      (fold-holds ops classes covers f (joined-clear (is_one_of ops) d k x xs full fine) (omega arith) i.below i.within)
      (operator-folds ops d k x xs rest p full clean
      (λ h. inner-free (is_one_of ops) xs (sym (inner-tree xs classes.0 (is_one_of ops) covers t) ∙ inner) h))
      (omega arith) (omega arith) (omega arith)

  right-within : {W' X : List ℕ} {lo hi : ℕ} {d : Forest} {k : Token} {rest : Forest} (i : AtItem W X v b lo hi d k nil rest)
      → is_nil d ≡ false
      → Folded W v b (wd W (v.base + v.read)) W' → {m : ℕ} → i.m ≡ m
      → AheadTo W X v.base v.read v.len m hi (wd W (v.base + v.read)) rest → Within W W' X lo hi v
  right-within i full w em (item low t r) =
      let behind = i.behind in
      let x =
      (fold_done {v = moved_to v (v.read + 1) v.write} full i.done i.tree t (omega arith) r (omega arith) i.below i.within
      (record { mid = w.mid; two = w.two; put = w.put })).within in
      record { kept = x.kept; long = x.long }

  -- the operator with both sides
  pub operated : {r : Turn} {W' : List ℕ} → 0 < v.write → v.read < v.len → shares (classes_at W (left_of W v)) classes.0 ≡ false
      → Operated W v b classes r W'
      → LevelTurned ops classes W v b (Ok r) W'
  operated has more s (opens inner same er) =
      rw (er, same)
      (record {
        to = λ g p fine.
            let full = back_full g.item.done has in
            right-enters g.item p fine full (left-clean classes.0 ops covers (back_last v g.item.done full) s) inner refl
            (ahead-item (wd W (v.base + v.read)) refl more g.item.ahead);
        within = λ g. same-within;
      })
  operated has more s (folds inner w er) =
      rw er
      (record {
        to = λ g p fine.
            let full = back_full g.item.done has in
            right-folds g.item p fine full (left-clean classes.0 ops covers (back_last v g.item.done full) s) inner w refl
            (ahead-item (wd W (v.base + v.read)) refl more g.item.ahead);
        within =
            λ g.
            right-within g.item (back_full g.item.done has) w refl
            (ahead-item (wd W (v.base + v.read)) refl more g.item.ahead);
      })

  -- nothing before it, or nothing after it
  pub operator-begins : v.write ≡ 0 → LevelTurned ops classes W v b (Err (BinaryAtEnd b)) W
  operator-begins z =
      record {
        to = λ g p fine.
            fails (Tells.binary_at_end g.item.tree.token)
            (ap (λ (f : Forest). work (binary ops) (gathered f) (node g.k nil g.rest)) (back_none g.item.done z)
            ∙ operator-first ops g.k g.rest p);
        within = λ g. same-within;
      }

  pub operator-ends : v.read ≡ v.len → LevelTurned ops classes W v b (Err (BinaryAtEnd b)) W
  operator-ends e =
      record {
        to = λ g p fine.
            fails (Tells.binary_at_end g.item.tree.token)
            (ap (λ (f : Forest). work (binary ops) (gathered g.d) (node g.k nil f))
            (ahead-end g.rest (omega arith) g.item.ahead) ∙ operator-last ops g.d g.k p);
        within = λ g. same-within;
      }

  pub operator-fails : {s : ℕ} → 0 < v.write → v.read < v.len → shares (classes_at W (left_of W v)) classes.0 ≡ true
      → LeafFound W (left_of W v) classes.0 s
      → LevelTurned ops classes W v b (Err (BinaryAtEnd s)) W
  operator-fails has more sh found =
      record {
        to = λ g p fine.
            let z = item-bounds g.item in let below = g.item.below in let within = g.item.within in
            again-at classes ops covers (omega arith) p fine sh found (back_last v g.item.done (back_full g.item.done has))
            (ahead-item (wd W (v.base + v.read)) refl more g.item.ahead);
        within = λ g. same-within;
      }

-- what `folded` asks of `is_inner` and `fold`
pub operate-room : {W : List ℕ} {v : Items} {b c : ℕ} → CanOperate W v b c
    → (slot_end (wd W (v.base + v.read)) ≤ length W) × (v.read + 1 ≤ v.len)
operate-room g = let more = g.more in ((next-room g.token (omega arith)).1, omega arith)

operate-fold : {W X : List ℕ} {v : Items} {b lo hi m : ℕ} {d : Forest} {k : Token} {rest : Forest} (i : AtItem W X v b lo hi d k nil rest)
    → is_nil d ≡ false → i.m ≡ m
    → AheadTo W X v.base v.read v.len m hi (wd W (v.base + v.read)) rest
    → CanFold W (moved_to v (v.read + 1) v.write) b (wd W (v.base + v.read))
operate-fold i full em (item low t r) =
    let behind = i.behind in can-fold full i.done i.tree t (omega arith) r (omega arith) i.below i.within

pub operate-folds : {W : List ℕ} {v : Items} {b c : ℕ} (l : Items) → CanOperate W v b c → l ≡ moved_to v (v.read + 1) v.write
    → CanFold W l b (wd W (v.base + v.read))
operate-folds {W} {v} l g e =
    rw e
    (operate-fold g.token.item (back_full g.token.item.done g.some) refl (ahead-item (wd W (v.base + v.read)) refl g.more
    g.token.item.ahead))

module _ {W W' : List ℕ} {v : Items} {b : ℕ} {classes : TokenClasses} {r : Turn} where
  pub operated-opens : (l : Items) → inner_at W (wd W (v.base + v.read)) classes.0 ≡ true → W' ≡ W
      → l ≡ moved_to v (v.read + 1) v.write
      → r ≡ Enter (walk_of l (Binary classes b)) (wd W (v.base + v.read)) → Operated W v b classes r W'
  operated-opens l h same el er = opens h same (er ∙ ap (λ (x : Items). Enter (walk_of x (Binary classes b)) (wd W (v.base + v.read))) el)

  pub operated-folds : (l : Items) → inner_at W (wd W (v.base + v.read)) classes.0 ≡ false → Folded W l b (wd W (v.base + v.read)) W'
      → l ≡ moved_to v (v.read + 1) v.write
      → r ≡ On (walk_of l (Binary classes 0)) → Operated W v b classes r W'
  operated-folds l h w el er =
      let w' : Folded W (moved_to v (v.read + 1) v.write) b (wd W (v.base + v.read)) W' = rw el at w in
      folds h (record { mid = w'.mid; two = w'.two; put = w'.put }) (er ∙ ap (λ (x : Items). On (walk_of x (Binary classes 0))) el)

-- what `operator` asks of the left side
left-tree : {W X : List ℕ} {v : Items} {lo a : ℕ} {d : Forest} (c : ℕ) → Last W X v lo a (left_of W v) d → slot_start a ≤ length W
    → shares (classes_at W (left_of W v)) c ≡ true → CanSearch W (left_of W v) c
left-tree {X = X} c (last {p = p} {m = m} {l = l} {ls = ls} e back left h) room sh =
    record { X = X; a = p; m = m; k = l; cs = ls; tree = left; within = omega arith; some = sh }

left-slot : {W X : List ℕ} {v : Items} {lo a : ℕ} {d : Forest} → Last W X v lo a (left_of W v) d → slot_start a ≤ length W
    → slot_end (left_of W v) ≤ length W
left-slot (last e back left h) room = omega (arith, tree-below left)

slots-below : {W : List ℕ} {v : Items} {b : ℕ} (g : AtToken W v b) → slot_start g.item.a ≤ length W
slots-below g = let z = item-bounds g.item in let below = g.item.below in let within = g.item.within in omega arith

pub can-search : {W : List ℕ} {v : Items} {b : ℕ} (c : ℕ) → AtToken W v b → v.write ≢ 0 → shares (classes_at W (left_of W v)) c ≡ true
    → CanSearch W (left_of W v) c
can-search {v = v} c g has sh = left-tree c (back_last v g.item.done (back_full g.item.done (omega arith))) (slots-below g) sh

pub left-room : {W : List ℕ} {v : Items} {b : ℕ} → AtToken W v b → v.write ≢ 0 → slot_end (left_of W v) ≤ length W
left-room {v = v} g has = left-slot (back_last v g.item.done (back_full g.item.done (omega arith))) (slots-below g)
