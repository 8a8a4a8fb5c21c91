-- One step of the scan on the list's trees: what each path of `fold_next` leads to.
use Prim.Native.Nat.{ℕ, zero, suc, ◌+◌, ◌-◌, ◌≤◌, ◌<◌}
use mathlib.Core.{Path.{◌≡◌, refl, sym, ap, ◌∙◌, subst}, Logic.{⊎_elim}, Bool.{Bool, true, false, true≢false}, List.{List}}
use native.Mathlib.{Omega.{arith}, Nat.{le_refl}, Decide.{ℕ_discrete}}
use lib.ListN.{length, set}
use Rattle.molang.specs.Operator
use Rattle.molang.specs.{Forest.{Token, Forest, nil, node}, Conditional.{is_token, starts_with, under, scan}}
use Rattle.nodes.specs.{Store.{wd, Seg, SegB, RepT, RepF, ends, more, RepB, begins, put, Kept}, Slots.{is_token_at}}
use Rattle.nodes.proofs.{Runs.{set_other, set_long}, Store.{reserve-pos, rep-le, tree-below, tree-out, back-le}, Trees.{token-test}}
use Rattle.nodes.specs.declared.frames.List.{List as Items}
use Rattle.levels.{specs.Passes.{moved_to}, specs.Items.{BackArray, Ahead}, proofs.Reading.{AheadTo, item, ahead-item, ahead-le}}
use Rattle.passes.specs.Unary.{RightList}
use Rattle.passes.specs.Conditional.{scan_at, CanFoldLast, FoldedLast, CanLook, IsElse, few, other, looked, CanScan, ScanTo}
use Rattle.passes.specs.Conditional.{FoldedNext}
use Rattle.passes.proofs.UnaryRight.{LastUnread, last, unread-last, unread-none}
use Rattle.passes.proofs.ConditionalFold.{scan-else, scan-on, scan-stray, group-kept, group-long, LastTwo, two, last-two, FoldedTo}
use Rattle.passes.proofs.ConditionalFold.{folded, fold-last, KeptTo, kept, keep-last}

-- ---- the items are slots

back-slot : {W X ds : List ℕ} (base : ℕ) {lo l : ℕ} {d : Forest} → RepB W X ds lo l d → SegB W base ds → (i : ℕ) → i < length ds
    → wd W (base + i) < l
back-slot base (begins h) g i z = absurd (omega arith)
back-slot {W} base {l = l} (put {b = b} {ds = ds} r t h) g i z =
    let high = tree-below t in
    let low = t.low in
    elim (ℕ_discrete i (length ds)) [
      | yes e ↦ rw e (rw g.0 (omega arith))
      | no n ↦ let less = back-slot base r g.1 i (omega arith) in omega arith
    ]

pub unread-slot : {W X : List ℕ} {base n lo l : ℕ} {d : Forest} → BackArray W X base n lo l d → (i : ℕ) → i < n → wd W (base + i) < l
unread-slot {base = base} v i h = back-slot base v.rep v.seg i (omega (arith, v.count))

run-slot : {W X bs : List ℕ} (at : ℕ) {lo hi : ℕ} {f : Forest} → RepF W X bs lo hi f → Seg W at bs → (i : ℕ) → i < length bs
    → (lo ≤ wd W (at + i)) × (wd W (at + i) < hi)
run-slot at (ends h) g i z = absurd (omega arith)
run-slot {W} at (more {b = b} {bs = bs} {m = m} {t = t} {k = k} a c d p o tk n ch ks r) g zero z =
    let e : at + 0 ≡ at = omega arith in
    let top = rep-le r in
    let own = reserve-pos t k in
    rw e (rw g.0 (omega arith, omega arith))
run-slot {W} at (more {b = b} {bs = bs} {m = m} a c d p o tk n ch ks r) g (suc i) z =
    let e : at + suc i ≡ at + 1 + i = omega arith in
    let s = run-slot (at + 1) r g.1 i (omega arith) in
    rw e (omega (arith, s), s.1)

pub done-slot : {W X : List ℕ} {base read len lo hi : ℕ} {f : Forest} → Ahead W X base read len lo hi f → (i : ℕ) → read ≤ i → i < len
    → (lo ≤ wd W (base + i)) × (wd W (base + i) < hi)
done-slot {base = base} {read = read} v i h z =
    let e : base + read + (i - read) ≡ base + i = omega arith in
    rw e at (run-slot (base + read) v.array.rep v.array.seg (i - read) (omega (arith, v.count, v.array.count)))

-- ---- what stands before the two that are folded

pub starts-at : {W X : List ℕ} {base n lo l : ℕ} {rest : Forest} (o : ℕ) → BackArray W X base n lo l rest → 0 < n
    → is_token_at W (wd W (base + (n - 1))) o ≡ starts_with o rest
unfolding starts_with
starts-at {W} {X} {base} {n} {lo} {l} o v z = go (unread-last v z)
  where
    go : {rest : Forest} → LastUnread W X base n lo l rest → is_token_at W (wd W (base + (n - 1))) o ≡ starts_with o rest
    go (last {ps = ps} t h r) = token-test o ps t

pub starts_none : {W X : List ℕ} {base n lo l : ℕ} {rest : Forest} (o : ℕ) → BackArray W X base n lo l rest → n ≡ 0
    → starts_with o rest ≡ false
starts_none {rest = rest} o v e = unfold starts_with in ap (starts_with o) (unread-none rest v e)

-- a token is a leaf
pub token-leaf : (o : ℕ) (k : Token) (cs : Forest) → is_token o k cs ≡ true → cs ≡ nil
unfolding is_token
token-leaf o k nil h = refl
token-leaf o k (node c cs r) h = absurd (true≢false (sym h))

module _ {W : List ℕ} {base len left right : ℕ} (g : CanScan W base len left right) where
  pub scan-look : CanLook W base left
  scan-look =
      let behind = g.behind in
      let full = g.full in
      let within = g.list.within in
      let below = g.list.below in
      let mid = g.list.mid in
      let top = (ahead-le g.list.done).0 in
      record { within = omega arith; slot = λ i h. omega (arith, unread-slot g.list.unread i h) }

  pub scan-fold : 2 ≤ left → CanFoldLast W base left right
  scan-fold z =
      let behind = g.behind in
      let full = g.full in
      let within = g.list.within in
      let below = g.list.below in
      let mid = g.list.mid in
      let top = (ahead-le g.list.done).0 in
      let one = unread-slot g.list.unread (left - 1) (omega arith) in
      let other = unread-slot g.list.unread (left - 2) (omega arith) in
      let first = done-slot g.list.done right (le_refl right) full in
      record {
        two = z;
        behind = behind;
        within = omega arith;
        own = omega arith;
        first = omega arith;
        second = omega arith;
        apart = omega arith;
      }

  -- `? then : else` is folded under the `:`
  scanned-else : {W' : List ℕ} → 2 ≤ left → IsElse W base left true → FoldedLast W base left right W'
      → ScanTo W' g.X g.lo g.hi base len g.L g.R (left - 2) right
  scanned-else {W'} z (looked h e q) w = go g.list (last-two g.list.unread z)
    where
      three : left - 2 - 1 ≡ left - 3
      three = omega arith

      at : {a b : Token} {bs rest : Forest} → is_token Operator.conditional_else a nil ≡ true → starts_with Operator.conditional rest ≡ true
          → FoldedTo W' g.X g.lo g.hi base len left right (node a nil (node b bs rest)) g.R
          → ScanTo W' g.X g.lo g.hi base len (node a nil (node b bs rest)) g.R (left - 2) right
      at t s (folded {a = a} {b = b} {bs = bs} {left' = rest} {e = l} list) =
          record {
            l = l;
            m = l;
            L' = rest;
            R' = under a b bs g.R;
            list = list;
            same = scan-else a nil b bs rest g.R t s;
            behind = omega (arith, g.behind);
            full = g.full;
          }

      leafy : {a b : Token} (aa : Forest) {bs rest : Forest}
          → RightList W g.X g.lo g.l g.m g.hi (scan_at base len left right) g.R (node a aa (node b bs rest))
          → is_token Operator.conditional_else a aa ≡ true → starts_with Operator.conditional rest ≡ true → aa ≡ nil
          → ScanTo W' g.X g.lo g.hi base len (node a aa (node b bs rest)) g.R (left - 2) right
      leafy {a} {b} aa {bs} {rest} list t s n =
          subst
          (λ (f : Forest). RightList W g.X g.lo g.l g.m g.hi (scan_at base len left right) g.R
          (node a f (node b bs rest)) → is_token Operator.conditional_else a f ≡ true
          → ScanTo W' g.X g.lo g.hi base len (node a f (node b bs rest)) g.R (left - 2) right)
          (sym n) (λ list t. at t s (fold-last w z g.behind g.full list)) list t

      go : {L : Forest} → RightList W g.X g.lo g.l g.m g.hi (scan_at base len left right) g.R L
          → LastTwo W g.X base left g.lo g.l L
          → ScanTo W' g.X g.lo g.hi base len L g.R (left - 2) right
      go list (two {a = a} {aa = aa} ta y tb f r) =
          let t = sym (token-test Operator.conditional_else aa ta) ∙ e in
          let s =
          sym (starts-at Operator.conditional r (omega arith)) ∙ ap (λ (i : ℕ). is_token_at W (wd W (base + i)) Operator.conditional) three
          ∙ sym q in
          leafy aa list t s (token-leaf Operator.conditional_else a aa t)

  pub fold-kept : {W' : List ℕ} → 2 ≤ left → FoldedLast W base left right W' → Kept W W' g.X g.lo g.hi base (base + len)
  fold-kept {W'} z w j f o = go (last-two g.list.unread z) (ahead-item (wd W (base + right)) refl g.full g.list.done)
    where
      go : {L R : Forest} → LastTwo W g.X base left g.lo g.l L
          → AheadTo W g.X base right len g.m g.hi (wd W (base + right)) R → wd W' j ≡ wd W j
      go (two ta y tb h r) (item low t after) =
          let mid = g.list.mid in
          let full = g.full in
          group-kept w tb t (omega (arith, ta.low)) (omega (arith, tree-below ta)) (tree-out ta) (back-le r.rep) (ahead-le after).0 j f
          (⊎_elim (λ x. omega arith) (λ x. omega arith) o)

  -- the item stays as it is
  scanned-on : {W' : List ℕ} → 2 ≤ left → IsElse W base left false → is_token_at W (wd W (base + (left - 1))) Operator.conditional ≡ false
      → W' ≡ set W (base + (right - 1)) (wd W (base + (left - 1)))
      → ScanTo W' g.X g.lo g.hi base len g.L g.R (left - 1) (right - 1)
  scanned-on {W'} z no-else no-if ew = go (last-two g.list.unread z) (keep-last g.list (omega arith) g.behind ew)
    where
      three : left - 2 - 1 ≡ left - 3
      three = omega arith

      stray : {a : Token} (b : Token) {aa : Forest} (bs : Forest) {rest : Forest} {x y e f : ℕ} → IsElse W base left false
          → RepT W g.X (wd W (base + (left - 1))) x y a aa → BackArray W g.X base (left - 2) e f rest
          → (t : Bool) → is_token Operator.conditional_else a aa ≡ t → is_token Operator.conditional a aa ≡ false
          → scan (node a aa (node b bs rest)) g.R ≡ scan (node b bs rest) (node a aa g.R)
      stray {a} b {aa} bs {rest} i ta r false t q = scan-on a aa b bs rest g.R q t
      stray {a} b {aa} bs {rest} (few h) ta r true t q =
          scan-stray a aa b bs rest g.R t (starts_none Operator.conditional r (omega arith))
      stray {a} b {aa} bs {rest} (other h) ta r true t q = absurd (true≢false (sym t ∙ sym (token-test Operator.conditional_else aa ta) ∙ h))
      stray {a} b {aa} bs {rest} (looked h k e) ta r true t q =
          scan-stray a aa b bs rest g.R t
          (sym (starts-at Operator.conditional r (omega arith)) ∙ ap (λ (i : ℕ). is_token_at W (wd W (base + i)) Operator.conditional) three
          ∙ sym e)

      go : {L : Forest} → LastTwo W g.X base left g.lo g.l L → KeptTo W' g.X g.lo g.hi base len left right g.R L
          → ScanTo W' g.X g.lo g.hi base len L g.R (left - 1) (right - 1)
      go (two {a = a} {b = b} {aa = aa} {bs = bs} {left = rest} ta y tb f r) (kept {e = l} list) =
          record {
            l = l;
            m = l;
            L' = node b bs rest;
            R' = node a aa g.R;
            list = list;
            same =
                stray b bs no-else ta r (is_token Operator.conditional_else a aa) refl (sym (token-test Operator.conditional aa ta) ∙ no-if);
            behind = omega (arith, g.behind);
            full = omega (arith, g.behind, g.full);
          }

-- ---- what `fold_next` ensures

module _ {W W' : List ℕ} {v : Items} (z : 2 ≤ v.read) where
  pub next-else : {r : Bool} → r ≡ true → IsElse W v.base v.read r → FoldedLast W v.base v.read v.write W'
      → FoldedNext W v (moved_to v (v.read - 2) v.write) W'
  next-else e i w =
      record {
        to = λ g. scanned-else g z (subst (λ (b : Bool). IsElse W v.base v.read b) e i) w;
        kept = λ g. fold-kept g z w;
        moved = refl;
        less = omega arith;
        long = group-long w;
      }

  pub next-on : {r : Bool} → r ≡ false → IsElse W v.base v.read r
      → is_token_at W (wd W (v.base + (v.read - 1))) Operator.conditional ≡ false
      → W' ≡ set W (v.base + (v.write - 1)) (wd W (v.base + (v.read - 1))) → 0 < v.write → v.write < v.len
      → FoldedNext W v (moved_to v (v.read - 1) (v.write - 1)) W'
  next-on e i no-if ew some full =
      record {
        to = λ g. scanned-on g z (subst (λ (b : Bool). IsElse W v.base v.read b) e i) no-if ew;
        kept =
            λ g j f o.
            set_other W W' (v.base + (v.write - 1)) (wd W (v.base + (v.read - 1))) ew j
            (⊎_elim (λ x. omega arith) (λ x. omega arith) o);
        moved = refl;
        less = omega arith;
        long = set_long W W' (v.base + (v.write - 1)) (wd W (v.base + (v.read - 1))) ew;
      }
