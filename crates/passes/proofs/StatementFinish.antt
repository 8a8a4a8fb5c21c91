-- The end of a split list: the statement that is open takes its items, and the list's node all statements.
use Prim.Native.Nat.{ℕ, ◌+◌, ◌-◌, ◌^◌, ◌≤◌, ◌<◌}
use mathlib.Core.{Path.{◌≡◌, refl, sym, ap, ◌∙◌, subst}, Logic.{◌≢◌, ◌⊎◌, inl, inr, ⊎_elim}, Bool.{false, true≢false}, List.{List, [], ◌∷◌}}
use native.Mathlib.{Omega.{arith}, Nat.{le_refl}}
use lib.ListN.{length, set}
use Rattle.molang.specs.{Operator.{semicolon}, Forest.{Token, Forest, nil, node, bare, in_order, count}, Message.{ok}, Level.{walk}}
use Rattle.molang.specs.{Statements.{unsplit, after, split_of, statement_finish, statement_level}, Free.{is_nil}}
use Rattle.molang.specs.Work.{Kind, statements, State, work}
use Rattle.nodes.specs.Store.{wd, slot_start, slot_end, TokenAt, SegB, OutFrom, ends as ends_at, RepT, RepB, begins as begins-with, put}
use Rattle.nodes.specs.{Store.{InArray, Owned, Free}, Children.{CanGive, Given}, declared.frames.List.{List as Items}}
use Rattle.nodes.proofs.{Runs.{seg_b-keep, set_same, set_other, set_long}, Tokens.{token-keep}}
use Rattle.nodes.proofs.Store.{rep-raise, tree-more, tree-keep, back-le, back-raise, back-avoid, back_keep, back_count}
use Rattle.nodes.proofs.Keeping.{free-beside, free-above, free_part, give_kept}
use Rattle.nodes.proofs.Trees.{tree-under, array-give, gathered-array, give-owned, give-token, owned-tree}
use Rattle.levels.{specs.Passes.{walk_of}, specs.Items.{BackArray}, specs.Sides.{EndedAt, Ended, nothing, statement}}
use Rattle.levels.{specs.Turns.{Within, CanFinish, ended_at, FinishTo, gives, Ends}, specs.declared.turns.Pass.TheVariants.{Split as SplitAt}}
use Rattle.std.specs.Prelude.{Ok}
use Rattle.levels.{proofs.Reading.{ahead-le}, proofs.Ended.{FirstEnded, ended-first}}
use Rattle.passes.specs.Statements.{Grouped, CanClose, ClosedTo, complete, closing}
use Rattle.passes.proofs.StatementLaws.{earliest, open_on}
use Rattle.passes.proofs.StatementGroup.{in_order_lem, order-first, TurnedFirst, grouped-tree, grouped-same, grouped-stored}
use Rattle.passes.proofs.{StatementGroup.{grouped-long}, StatementSplit.{Pending, SplitView, splits, split-view, open-items}}
use Rattle.passes.proofs.StatementSemicolon.{back-nil, beside-slot}

-- ---- the finished statements beside the list's node

-- The last finished statement. The statements are trees apart from the slot of the list's node, which is two behind that of the first, p.
pub record LastEnded (W X : List ℕ) (base lo l p : ℕ) (ds : List ℕ) (d : Forest) : Type 0 where
  pub last : ℕ
  pub at : wd W (base + length ds - 1) ≡ last
  pub low : lo ≤ last
  pub high : last + 3 ≤ l
  pub out : OutFrom last 3 X
  pub apart : (last ≡ p) ⊎ (p + 3 ≤ last)
  pub back : RepB W ((p + 2) ∷ X) ds lo (last + 1) d
  pub some : 0 < length ds

pub ended-last : {W X ds : List ℕ} {lo l : ℕ} {d : Forest} (base p : ℕ) → Ended W X ds lo l d → SegB W base ds → is_nil d ≡ false
    → wd W base ≡ p → LastEnded W X base lo l p ds d
unfolding is_nil
ended-last base p (nothing e) g n w = absurd (true≢false n)
ended-last {W} {X} base p (statement {b = b} (nothing z) t o e) g n w =
    let first : b ≡ p = sym g.0 ∙ ap (wd W) (omega arith) ∙ w in
    record {
      last = b;
      at = ap (wd W) (omega arith) ∙ g.0;
      low = omega (arith, t.low);
      high = e;
      out = o;
      apart = inl first;
      back = put (begins-with z) (tree-under (p + 2) (inr (omega arith)) t) (le_refl (b + 1));
      some = omega arith;
    }
ended-last {W} base p (statement {b = b} {m = m} (statement r u v z) t o e) g n w =
    let f = ended-last base p (statement r u v z) g.1 refl w in
    let fl = f.low in let fh = f.high in let tl = t.low in let fa = f.apart in
    let past : p + 3 ≤ f.last + 3 = ⊎_elim (λ h. omega arith) (λ h. omega arith) fa in
    record {
      last = b;
      at = ap (wd W) (omega arith) ∙ g.0;
      low = omega arith;
      high = e;
      out = o;
      apart = inr (omega arith);
      back = put {l = m} (back-raise (omega arith) f.back) (tree-under (p + 2) (inl (omega arith)) t) (le_refl (b + 1));
      some = omega arith;
    }

-- ---- all statements

-- The statements of a split list, the last first.
unfoldable pub closed_on : Forest → Forest → Forest
closed_on done nil = done
closed_on done (node t ts d) = node (bare semicolon (earliest t d)) (in_order (node t ts d)) done

work_closed : (q : Token) (done d : Forest) → work statements (open_on q done d) nil ≡ ok (node q (in_order (closed_on done d)) nil)
unfolding work walk statement_level statement_finish open_on closed_on
work_closed q done nil = refl
work_closed q done (node t ts d) = refl

closed-full : (done d : Forest) → is_nil done ≡ false → is_nil (closed_on done d) ≡ false
unfolding is_nil closed_on
closed-full done nil e = e
closed-full done (node t ts d) e = refl

-- They stand in the list's words, apart from the list's node, whose token is laid down.
pub record Finishing (W X : List ℕ) (lo hi base r p : ℕ) (q : Token) (f : Forest) : Type 0 where
  pub array : InArray W ((p + 2) ∷ X) base r lo hi (in_order f)
  pub token : TokenAt W (p + 2) q
  pub first : wd W base ≡ p
  pub low : lo ≤ p
  pub high : p + 3 ≤ hi
  pub pos : 0 < p
  pub out : OutFrom p 3 X
  pub below : slot_start hi ≤ base
  pub room : base + r ≤ length W
  pub some : 0 < r

module _ {W X : List ℕ} {lo hi n m a : ℕ} (l : Items) (c : ℕ) {q : Token} {done : Forest} (v : EndedAt W X l.base n lo m q done)
    (reached : n + c ≡ l.write)
    (top : a ≤ hi) (full : is_nil done ≡ false) (below : slot_start hi ≤ l.base) (within : l.base + l.write ≤ length W) where
  lasts : LastEnded W X l.base lo m (wd W l.base) v.ds done
  lasts = ended-last l.base (wd W l.base) v.rep v.seg full refl

  firsts : FirstEnded X lo m (wd W l.base)
  firsts = ended-first l.base v.rep v.seg full

  last-at : wd W (l.base + n - 1) ≡ lasts.last
  last-at = ap (λ (x : ℕ). wd W (l.base + x - 1)) v.count ∙ lasts.at

  close-asks : {d : Forest} → BackArray W X (l.base + n) c m a d → length W < 2 ^ 32 → CanClose W l n
  close-asks {d} items small =
      let z = lasts in let high = z.high in let at = last-at in let ml = back-le items.rep in
      record {
        finished = omega (arith, z.some, v.count);
        from = omega arith;
        within = within;
        small = small;
        last = omega arith;
        give = λ h.
            let ar = in_order_lem items in
            let wide : InArray W X (l.base + n) c m hi (in_order d) =
            record { bs = ar.bs; seg = ar.seg; count = ar.count; rep = rep-raise top ar.rep } in
            subst (λ (x : ℕ). CanGive W (wd W (l.base + n - 1) + 1) (l.base + n) x) (omega arith)
            (array-give wide (omega arith) (omega arith) (omega arith));
      }

  all-ended : {d : Forest} → BackArray W X (l.base + n) c m a d → Finishing W X lo hi l.base n (wd W l.base) q done
  all-ended items =
      let z = lasts in let f = firsts in let high = z.high in let fh = f.high in let ml = back-le items.rep in
      record {
        array =
            subst (λ (x : ℕ). InArray W ((wd W l.base + 2) ∷ X) l.base x lo hi (in_order done)) (sym v.count)
            (gathered-array (back-raise (omega arith) z.back) v.seg);
        token = v.list full;
        first = refl;
        low = f.low;
        high = omega arith;
        pos = f.pos;
        out = f.out;
        below = below;
        room = omega arith;
        some = omega (arith, z.some, v.count);
      }

  last-ended : {t : Token} {ts d : Forest} {W' : List ℕ} → BackArray W X (l.base + n) c m a (node t ts d) → n < l.write
      → Grouped W (wd W (l.base + n - 1) + 1) (l.base + n) (l.write - n) W'
      → Finishing W' X lo hi l.base (n + 1) (wd W l.base) q (node (bare semicolon (earliest t d)) (in_order (node t ts d)) done)
  last-ended {t} {ts} {d} {W'} items h g0 =
      let z = lasts in let f = firsts in
      let high =
      z.high in let fh = f.high in let ml = back-le items.rep in let low = z.low in let cnt = v.count in let some = z.some in
      let p = wd W l.base in
      let b = z.last + 1 in
      let Y = (p + 2) ∷ X in
      let g : Grouped W b (l.base + n) (l.write - n) W' =
      subst (λ (x : ℕ). Grouped W (x + 1) (l.base + n) (l.write - n) W') last-at g0 in
      let apart : b ≢ p + 2 = ⊎_elim (λ e. omega arith) (λ e. omega arith) z.apart in
      let own : BackArray W Y (l.base + n) (l.write - n) m a (node t ts d)
      =
      open-items refl (omega arith)
      (record { ds = items.ds; seg = items.seg; count = items.count; rep = back-avoid (λ s x y o. (omega arith, o)) items.rep }) in
      let tree : RepT W' Y b b hi (bare semicolon (earliest t d)) (in_order (node t ts d))
      =
      grouped-tree g own (inl (omega arith)) (omega arith) top (le_refl b) (omega arith) (omega arith) (omega arith)
      (apart, z.out b (omega arith) (omega arith)) (omega arith) in
      let same : (j : ℕ) → j ≢ l.base + n → (j < slot_start b) ⊎ (slot_end b ≤ j) → Free Y m a j → wd W' j ≡ wd W j
      = grouped-same {lo = b} {hi = hi} g own (inl (omega arith)) (omega arith) top (le_refl b) (omega arith) (omega arith) in
      let back : RepB W' Y v.ds lo b done =
      back_keep W W'
      (λ s o x y w u e. same (slot_start s + o) (omega arith) (inl (omega arith)) (free-beside Y m a s o w (inl (omega arith)))) z.back in
      let seg : SegB W' l.base v.ds
      = seg_b-keep W W' l.base v.ds (λ j x y. same j (omega arith) (inr (omega arith)) (free-above Y m a j (omega arith))) v.seg in
      let stored : wd W' (l.base + length v.ds) ≡ b
      =
      ap (λ (x : ℕ). wd W' (l.base + x)) (sym cnt)
      ∙ grouped-stored {lo = b} {hi = hi} g own (inl (omega arith)) (omega arith) top (le_refl b) (omega arith) (omega arith)
      (omega arith) in
      let all : RepB W' Y (b ∷ v.ds) lo hi (node (bare semicolon (earliest t d)) (in_order (node t ts d)) done) =
      put back tree (le_refl hi) in
      record {
        array =
            subst (λ (x : ℕ). InArray W' Y l.base x lo hi (in_order (node (bare semicolon (earliest t d)) (in_order (node t ts d)) done)))
            (omega arith) (gathered-array all (stored, seg));
        token =
            token-keep W W' (p + 2)
            (λ o w. same (slot_start (p + 2) + o) (omega arith) (⊎_elim (λ e. inr (omega arith)) (λ e. inl (omega arith)) z.apart)
            (free-beside Y m a (p + 2) o (omega arith) (inl (omega arith))))
            (v.list full);
        first = same l.base (omega arith) (inr (omega arith)) (free-above Y m a l.base (omega arith));
        low = f.low;
        high = omega arith;
        pos = f.pos;
        out = f.out;
        below = below;
        room = omega (arith, grouped-long g);
        some = omega arith;
      }

-- ---- the list's node takes them

pub finishing-gives : {W X : List ℕ} {lo hi base r p : ℕ} {q : Token} {f : Forest} → Finishing W X lo hi base r p q f
    → CanGive W (p + 2) base r
finishing-gives v = let high = v.high in array-give v.array (omega arith) v.below v.room

full-first : (f : Forest) → is_nil f ≡ false → (k : Token) × TurnedFirst k (in_order f)
unfolding is_nil
full-first nil e = absurd (true≢false e)
full-first (node k cs d) e = (earliest k d, order-first k cs d)

module _ {W W' W'' X : List ℕ} {lo hi base r p : ℕ} {q : Token} {f : Forest} (v : Finishing W X lo hi base r p q f)
    (g : Given W (p + 2) base r W') (w : W'' ≡ set W' base (p + 2)) where
  pub finished-array : is_nil f ≡ false → InArray W'' X base 1 lo hi (node q (in_order f) nil)
  finished-array full =
      let first = full-first f full in
      let ar = v.array in
      let high = v.high in let low = v.low in let below = v.below in let room = v.room in let some = v.some in
      let owned : Owned W' X (p + 2) lo hi (node first.0 first.1.cs first.1.rest)
      = subst (λ (x : Forest). Owned W' X (p + 2) lo hi x) first.1.is (give-owned g ar.seg (sym ar.count) ar.rep) in
      let token = give-token g ar.seg (sym ar.count) ar.rep v.token in
      let tree : RepT W' X (p + 2) lo hi q (node first.0 first.1.cs first.1.rest)
      = owned-tree token (omega arith) (v.out (p + 2) (omega arith) (omega arith)) (omega arith) (omega arith) owned in
      let tree' : RepT W'' X (p + 2) lo hi q (in_order f)
      = subst (λ (x : Forest). RepT W'' X (p + 2) lo hi q x) (sym first.1.is)
      (tree-keep W' W'' (λ s o x y z u e. set_other W' W'' base (p + 2) w (slot_start s + o) (omega arith)) tree) in
      record {
        bs = (p + 2) ∷ [];
        seg = (set_same W' W'' base (p + 2) w (omega (arith, g.long)), tt);
        count = refl;
        rep = tree-more (le_refl lo) tree' (ends_at (le_refl hi));
      }

  pub finished-kept : (j : ℕ) → Free X lo hi j → j ≢ base → wd W'' j ≡ wd W j
  finished-kept j f n =
      let ar = v.array in let high = v.high in let low = v.low in
      set_other W' W'' base (p + 2) w j n
      ∙ give_kept g ar.seg (sym ar.count) ar.rep (omega arith) (omega arith) (v.out (p + 2) (omega arith) (omega arith)) j f

  pub finished-long : length W'' ≡ length W
  finished-long = set_long W' W'' base (p + 2) w ∙ g.long

-- ---- the pass ends

unsplit-after : {q : Token} → unsplit nil ≡ after q nil → ⊥
unsplit-after e = let z : ◌≡◌ {A = ℕ} 0 1 = cc in omega arith

pending-full : (q : Token) (done : Forest) → Pending q done nil → is_nil done ≡ false
unfolding is_nil split_of
pending-full q nil p = absurd (unsplit-after (p refl))
pending-full q (node t ts done) p = refl

-- the words outside the list and its free slots, and the words' number
abbrev KeptBeside : List ℕ → List ℕ → List ℕ → ℕ → ℕ → Items → Type 0
KeptBeside W W' X lo hi l = ((j : ℕ) → Free X lo hi j → (j < l.base) ⊎ (l.base + l.len ≤ j) → wd W' j ≡ wd W j) × (length W' ≡ length W)

module _ {W X : List ℕ} {lo hi n m a : ℕ} (l : Items) (c : ℕ) {q : Token} {done : Forest} (v : EndedAt W X l.base n lo m q done)
    (reached : n + c ≡ l.write)
    (top : a ≤ hi) (full : is_nil done ≡ false) (below : slot_start hi ≤ l.base) (within : l.base + l.write ≤ length W)
    (room : l.write ≤ l.len) where
  closing-finishes : {W' : List ℕ} (d : Forest) → BackArray W X (l.base + n) c m a d → n < l.write
      → Grouped W (wd W (l.base + n - 1) + 1) (l.base + n) (l.write - n) W'
      → Finishing W' X lo hi l.base (n + 1) (wd W l.base) q (closed_on done d) × KeptBeside W W' X lo hi l
  unfolding closed_on count
  closing-finishes nil items h g = absurd (omega (arith, items.count, back_count items.rep))
  closing-finishes {W'} (node t ts d) items h g0 =
      let z = lasts l c v reached top full below within in
      let at = last-at l c v reached top full below within in
      let high = z.high in let low = z.low in let ml = back-le items.rep in
      let b = z.last + 1 in
      let g : Grouped W b (l.base + n) (l.write - n) W' = subst (λ (x : ℕ). Grouped W (x + 1) (l.base + n) (l.write - n) W') at g0 in
      let own : BackArray W X (l.base + n) (l.write - n) m a (node t ts d) = open-items refl (omega arith) items in (
        last-ended l c v reached top full below within items h g0,
        (
          λ j f o.
              grouped-same {lo = b} {hi = hi} g own (inl (omega arith)) (omega arith) top (le_refl b) (omega arith) (omega arith) j
              (⊎_elim (λ x. omega arith) (λ x. omega arith) o)
              (beside-slot X lo hi b j (omega arith) (omega arith) (z.out b (omega arith) (omega arith)) f)
              (free_part X lo hi m a j (omega arith) (omega arith) f),
          grouped-long g,
        ),
      )

  closed-finishes : {W' : List ℕ} {r : ℕ} {d : Forest} → BackArray W X (l.base + n) c m a d → ClosedTo W l n r W'
      → Finishing W' X lo hi l.base r (wd W l.base) q (closed_on done d) × KeptBeside W W' X lo hi l
  unfolding closed_on
  closed-finishes {d = d} items (complete e) =
      let none : d ≡ nil = back-nil items.rep (omega (arith, items.count)) in (
        subst (λ (x : Forest). Finishing W X lo hi l.base n (wd W l.base) q (closed_on done x)) (sym none)
            (all-ended l c v reached top full below within items),
        (λ j f o. refl, refl),
      )
  closed-finishes {d = d} items (closing h g) = closing-finishes d items h g

finish-count : {W X : List ℕ} {base n lo m : ℕ} {q : Token} {done : Forest} → EndedAt W X base n lo m q done → is_nil done ≡ false → 0 < n
finish-count {W} {base = base} v full = omega (arith, v.count, (ended-last base (wd W base) v.rep v.seg full refl).some)

finish-view-closes : {W X : List ℕ} {lo hi n : ℕ} {l : Items} {κ : Kind} {s : State κ} → length W < 2 ^ 32 → SplitView W X lo hi l n κ s nil
    → CanClose W l n
finish-view-closes {l = l} small (splits {q = q} {done = done} {c = c} v b e u le p t below within) =
    let al = ahead-le u in
    close-asks l c v e (omega arith) (pending-full q done p) below (omega arith) b small

pub finish-closes : {W : List ℕ} {l : Items} {n : ℕ} → CanFinish W (walk_of l (SplitAt n)) → CanClose W l n
finish-closes h = finish-view-closes h.small (split-view h.holds)

-- what the rest of `finish` asks
pub record FinishAsks (W W1 : List ℕ) (l : Items) (r : ℕ) : Type 0 where
  pub inside : l.base < length W1
  pub spare : wd W1 l.base + 2 < 2 ^ 32
  pub give : CanGive W1 (wd W1 l.base + 2) l.base r
  pub long : length W1 ≡ length W

finish-view-asks : {W W1 X : List ℕ} {lo hi n r : ℕ} {l : Items} {κ : Kind} {s : State κ} → length W < 2 ^ 32
    → SplitView W X lo hi l n κ s nil → ClosedTo W l n r W1 → FinishAsks W W1 l r
finish-view-asks {W} {W1} {r = r} {l = l} small (splits {q = q} {done = done} {c = c} v b e u le p t below within) i =
    let al = ahead-le u in
    let z = closed-finishes l c v e (omega arith) (pending-full q done p) below (omega arith) (omega arith) b i in
    let f = z.0 in
    let first = f.first in let high = f.high in let room = f.room in let some = f.some in let fb = f.below in let long = z.1.1 in
    record {
      inside = omega arith;
      spare = omega arith;
      give = subst (λ (x : ℕ). CanGive W1 (x + 2) l.base r) (sym first) (finishing-gives f);
      long = long;
    }

pub finish-asks : {W W1 : List ℕ} {l : Items} {n r : ℕ} → CanFinish W (walk_of l (SplitAt n)) → ClosedTo W l n r W1 → FinishAsks W W1 l r
finish-asks h i = finish-view-asks h.small (split-view h.holds) i

module _ {W W1 W2 W3 : List ℕ} {l : Items} {n r : ℕ} (i : ClosedTo W l n r W1) (g : Given W1 (wd W1 l.base + 2) l.base r W2)
    (w : W3 ≡ set W2 l.base (wd W1 l.base + 2)) where
  view-ends : {X : List ℕ} {lo hi : ℕ} {κ : Kind} {s : State κ} → SplitView W X lo hi l n κ s nil
      → FinishTo κ W3 X lo hi l s (Ok (ended_at l.base 1)) × Within W W3 X lo hi l
  view-ends {X} {lo} {hi} (splits {q = q} {done = done} {d = d} {c = c} v b e u le p t below within) =
      let al = ahead-le u in
      let full = pending-full q done p in
      let z = closed-finishes l c v e (omega arith) full below (omega arith) (omega arith) b i in
      let kept = z.1.0 in
      let f : Finishing W1 X lo hi l.base r (wd W1 l.base) q (closed_on done d)
      = subst (λ (x : ℕ). Finishing W1 X lo hi l.base r x q (closed_on done d)) (sym z.0.first) z.0 in
      let some = f.some in
      let n-le : 1 ≤ l.len = omega (arith, finish-count v full) in (
        gives (work_closed q done d) (finished-array f g w (closed-full done d full)) (le_refl l.base) (omega arith),
        record {
          kept = λ j h o. finished-kept f g w j h (⊎_elim (λ x. omega arith) (λ x. omega arith) o) ∙ kept j h o;
          long = finished-long f g w ∙ z.1.1;
        },
      )

  pub split-ends : Ends W (walk_of l (SplitAt n)) (Ok (ended_at l.base 1)) W3
  split-ends = record { to = λ h. (view-ends (split-view h.holds)).0; within = λ h. (view-ends (split-view h.holds)).1 }
