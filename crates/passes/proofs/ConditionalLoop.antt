-- The loop of `fold_conditionals`: how the scan begins, that each step keeps what it leads to, and where it ends. Leans on ConditionalFold
-- for an item that stays as it is, and on UnaryRight for the unread items.
use Prim.Native.Nat.{ℕ, ◌+◌, ◌-◌, ◌^◌, ◌≤◌, ◌<◌}
use mathlib.Core.{Path.{◌≡◌, refl, sym, ap, ◌∙◌, subst}, Logic.{⊎_elim}, List.{List, []}}
use native.Mathlib.{Omega.{arith}, Nat.{le_refl}}
use lib.ListN.{length, set}
use Rattle.molang.specs.{Forest.{Token, Forest, nil, node, turned_onto, in_order, count}, Conditional.{scan, folded_from}}
use Rattle.nodes.specs.Store.{wd, slot_start, RepT, ends, Kept}
use Rattle.nodes.proofs.{Runs.{set_other, set_long}, Store.{rep-lower, back-le, back_count}, Trees.{gathered-array}, Keeping.{kept_then}}
use Rattle.levels.specs.Items.{BackArray, Ahead}
use Rattle.passes.specs.{Unary.{RightList}, Conditional.{scan_at, CanScan, ScanTo, CanFoldNext, FoldedNext, CanFold, FoldedAll}}
use Rattle.nodes.specs.declared.frames.List.{List as Items}
use Rattle.levels.specs.Passes.{moved_to}
use Rattle.passes.proofs.UnaryRight.{LastUnread, last, unread-last, unread-none, ahead-cons}
use Rattle.passes.proofs.ConditionalFold.{LastTwo, two, last-two, KeptTo, kept, keep-last}

-- the last tree is the first of the right part
data BeganWith (W X : List ℕ) (lo hi base len : ℕ) : Forest → Type 0 where
  began : {d L R : Forest} {e : ℕ} → RightList W X lo e e hi (scan_at base len (len - 1) (len - 1)) R L → folded_from d ≡ scan L R
      → BeganWith W X lo hi base len d

scan_begins : {W X : List ℕ} {lo hi base len : ℕ} {d : Forest} → BackArray W X base len lo hi d → 3 ≤ len → slot_start hi ≤ base
    → base + len ≤ length W → length W < 2 ^ 32
    → BeganWith W X lo hi base len d
unfolding folded_from
scan_begins {W} {X} {lo} {hi} {base} {len} v h below within small = go (unread-last v (omega arith))
  where
    at : {a c : ℕ} {k : Token} {ks rest : Forest} → RepT W X (wd W (base + (len - 1))) a c k ks → c ≤ hi
        → BackArray W X base (len - 1) lo a rest → LastTwo W X base (len - 1) lo a rest
        → BeganWith W X lo hi base len (node k ks rest)
    at {a} {c} {k} {ks} t y r (two ta q tb f s) =
        let nothing : Ahead W X base (len - 1 + 1) len c hi nil
        = record { n = 0; count = omega arith; array = record { bs = []; seg = tt; count = refl; rep = ends y } } in
        began
        (record {
          unread = r;
          done = ahead-cons (le_refl a) t refl nothing;
          mid = le_refl a;
          below = below;
          within = within;
          small = small;
        }) refl

    go : {d : Forest} → LastUnread W X base len lo hi d → BeganWith W X lo hi base len d
    go (last t y r) = at t y r (last-two r (omega arith))

-- nothing is unread
scan-none : {W X : List ℕ} {lo l m hi base len left right : ℕ} {L R : Forest} → RightList W X lo l m hi (scan_at base len left right) R L
    → left ≡ 0 → scan L R ≡ R
scan-none {L = L} {R = R} list e = unfold scan in ap (λ (f : Forest). scan f R) (unread-none L list.unread e)

-- the done items, as the list's interval has them
all_done : {W X : List ℕ} {lo l m hi base len left right : ℕ} {f rest : Forest}
    → RightList W X lo l m hi (scan_at base len left right) f rest → Ahead W X base right len lo hi f
all_done list =
    let mid = list.mid in
    let v = list.done in
    record {
      n = v.n;
      count = v.count;
      array =
          record {
            bs = v.array.bs;
            seg = v.array.seg;
            count = v.array.count;
            rep = rep-lower (omega (arith, back-le list.unread.rep)) v.array.rep;
          };
    }

-- one item is unread, and stands before the done ones then
scan-one : {W W' X : List ℕ} {lo l m hi base len left right : ℕ} {L R : Forest} → RightList W X lo l m hi (scan_at base len left right) R L
    → left ≡ 1 → left ≤ right
    → W' ≡ set W (base + (right - 1)) (wd W base) → Ahead W' X base (right - 1) len lo hi (scan L R)
unfolding scan
scan-one {W} {W'} {X} {lo} {l} {m} {hi} {base} {len} {left} {right} {L} {R} list one behind ew =
    go (keep-last list (omega arith) behind (ew ∙ ap (λ (i : ℕ). set W (base + (right - 1)) (wd W i)) first))
  where
    first : base ≡ base + (left - 1)
    first = omega arith

    go : {L : Forest} → KeptTo W' X lo hi base len left right R L → Ahead W' X base (right - 1) len lo hi (scan L R)
    go (kept {a = a} {aa = aa} {rest = rest} list') =
        subst (λ (f : Forest). Ahead W' X base (right - 1) len lo hi (scan (node a aa f) R))
        (sym (unread-none rest list'.unread (omega arith))) (all_done list')

-- ---- the loop

-- The scan of what is unread and done in the words Z gives what the fold makes of the list's items.
pub record ScanningAt (W : List ℕ) (base len : ℕ) (g : CanFold W base len) (Z : List ℕ) (left right : ℕ) : Type 0 where
  pub L : Forest
  pub R : Forest
  pub same : folded_from g.d ≡ scan L R
  pub to : ScanTo Z g.X g.lo g.hi base len L R left right
  pub kept : Kept W Z g.X g.lo g.hi base (base + len)

pub record Scanning (W : List ℕ) (v : Items) (Z : List ℕ) (s : Items) : Type 0 where
  pub at : (g : CanFold W v.base v.len) → ScanningAt W v.base v.len g Z s.read s.write
  pub moved : s ≡ moved_to v s.read s.write
  pub long : length Z ≡ length W

abbrev scanning : {W : List ℕ} {base len : ℕ} {g : CanFold W base len} {Z : List ℕ} {left right : ℕ} → ScanningAt W base len g Z left right
    → CanScan Z base len left right
scanning {g = g} s =
    record {
      X = g.X;
      lo = g.lo;
      l = s.to.l;
      m = s.to.m;
      hi = g.hi;
      L = s.to.L';
      R = s.to.R';
      list = s.to.list;
      behind = s.to.behind;
      full = s.to.full;
    }

pub scan-start : {W : List ℕ} {v : Items} (s : Items) → s ≡ moved_to v (v.len - 1) (v.len - 1) → 3 ≤ v.len → Scanning W v W s
scan-start {W} {v} s e h =
    rw e (record { at = λ g. go g (scan_begins g.items h g.below g.within g.small); moved = refl; long = refl })
  where
    go : (g : CanFold W v.base v.len) → BeganWith W g.X g.lo g.hi v.base v.len g.d
        → ScanningAt W v.base v.len g W (v.len - 1) (v.len - 1)
    go g (began {L = L} {R = R} {e = e} list same) =
        record {
          L = L;
          R = R;
          same = same;
          to = record { l = e; m = e; L' = L; R' = R; list = list; same = refl; behind = le_refl (v.len - 1); full = omega arith };
          kept = λ j f o. refl;
        }

module _ {W Z : List ℕ} {v s : Items} (t : Scanning W v Z s) where
  pub scan-base : s.base ≡ v.base
  scan-base = ap (λ (x : Items). x.base) t.moved

  pub scan-in : CanFold W v.base v.len → (s.read ≤ s.write) × (s.write < v.len) × (v.base + v.len ≤ length Z) × (length Z < 2 ^ 32)
  scan-in g = let n = t.at g in (n.to.behind, n.to.full, n.to.list.within, n.to.list.small)

  pub next-can : CanFold W v.base v.len → 2 ≤ s.read → CanFoldNext Z s.base s.len s.read s.write
  next-can g h =
      subst (λ (x : Items). CanFoldNext Z x.base x.len s.read s.write) (sym t.moved) (record { scan = scanning (t.at g); two = h })

  pub scan-next : {Z' : List ℕ} {r : Items} → FoldedNext Z s r Z' → Scanning W v Z' r
  scan-next {Z'} {r} w' =
      let w : FoldedNext Z (moved_to v s.read s.write) r Z' = subst (λ (x : Items). FoldedNext Z x r Z') t.moved w' in
      record {
        at = λ g.
            let a = t.at g in
            let n = scanning a in
            record {
              L = a.to.L';
              R = a.to.R';
              same = a.same ∙ a.to.same;
              to = w.to n;
              kept = kept_then W Z Z' g.X g.lo g.hi v.base (v.base + v.len) a.kept (w.kept n);
            };
        moved = w.moved;
        long = w.long ∙ t.long;
      }

-- ---- what `fold_conditionals` ensures

-- fewer than three stay as they are
few-stay : (d : Forest) → count d < 3 → folded_from d ≡ in_order d
unfolding folded_from turned_onto in_order count
few-stay nil h = refl
few-stay (node a aa nil) h = refl
few-stay (node a aa (node b bs nil)) h = refl
few-stay (node a aa (node b bs (node c cs left))) h = absurd (omega arith)

pub folded-few : {W : List ℕ} {base len : ℕ} → len < 3 → FoldedAll W base len 0 W
folded-few {W} {base} {len} h =
    record {
      to = λ g.
          let v = g.items in
          let here : base ≡ base + 0 = omega arith in
          let all = gathered-array v.rep (rw here at v.seg) in
          rw (few-stay g.d (omega (arith, v.count, back_count v.rep)))
          (record { n = length v.ds; count = omega (arith, v.count); array = all });
      kept = λ g j f o. refl;
      long = refl;
    }

module _ {W Z : List ℕ} {v s : Items} (t : Scanning W v Z s) where
  pub folded-none : s.read ≡ 0 → FoldedAll W v.base v.len s.write Z
  folded-none e =
      record {
        to = λ g. let a = t.at g in rw (a.same ∙ a.to.same ∙ scan-none a.to.list e) (all_done a.to.list);
        kept = λ g. (t.at g).kept;
        long = t.long;
      }

  pub folded-one : {Z' : List ℕ} → s.read ≡ 1 → Z' ≡ set Z (s.base + (s.write - 1)) (wd Z s.base)
      → FoldedAll W v.base v.len (s.write - 1) Z'
  folded-one {Z'} e ez' =
      let ez : Z' ≡ set Z (v.base + (s.write - 1)) (wd Z v.base) = rw (scan-base t) at ez' in
      record {
        to = λ g. let a = t.at g in rw (a.same ∙ a.to.same) (scan-one a.to.list e a.to.behind ez);
        kept = λ g.
            let a = t.at g in
            let behind = a.to.behind in
            let full = a.to.full in
            kept_then W Z Z' g.X g.lo g.hi v.base (v.base + v.len) a.kept
            (λ j f o. set_other Z Z' (v.base + (s.write - 1)) (wd Z v.base) ez j (⊎_elim (λ x. omega arith) (λ x. omega arith) o));
        long = set_long Z Z' (v.base + (s.write - 1)) (wd Z v.base) ez ∙ t.long;
      }
