-- The conditional's fold: one step of the scan as an equation, and what a fold of two trees under an operator between them does to the
-- words.
use Prim.Native.Nat.{ℕ, ◌+◌, ◌-◌, ◌≤◌, ◌<◌}
use mathlib.Core.{Path.{◌≡◌, refl, ◌∙◌, subst}, Logic.{◌≢◌, inl, inr}, Bool.{true, false}, List.{List}}
use native.Mathlib.{Omega.{arith}, Nat.{le_refl}}
use borrow.Author.Tests.{eqb-true, ne_eqb}
use lib.ListN.{length, set}
use Rattle.molang.specs.Operator
use Rattle.molang.specs.{Forest.{Token, Forest, nil, node}, Conditional.{is_token, starts_with, under, pair_else, scan}}
use Rattle.molang.proofs.Conditional.{scanned, scan-once}
use Rattle.nodes.specs.Store.{wd, slot_words, slot_start, first_word, next_word, classes_word, TokenAt, Out, RepT, Free}
use Rattle.nodes.proofs.{Runs.{set_same, set_other, set_long}, Store.{tree-below, tree-out, tree-keep, tree-widen}}
use Rattle.nodes.proofs.Trees.{tree-under, attach-two-trees, attach-two-kept}
use Rattle.levels.{specs.Items.{BackArray, Ahead}, proofs.Reading.{AheadTo, item, ahead-item, ahead-keep, ahead-le, back-array-keep}}
use Rattle.passes.specs.{Unary.{RightList}, Conditional.{scan_at, Grouped, FoldedLast}}
use Rattle.passes.proofs.UnaryRight.{LastUnread, last, unread-last, ahead-cons}

-- ---- one step of the scan

-- a `:` is no `?`
else-no-if : (a : Token) (aa : Forest) → is_token Operator.conditional_else a aa ≡ true → is_token Operator.conditional a aa ≡ false
unfolding is_token
else-no-if a nil h = let e = eqb-true a.op Operator.conditional_else h in ne_eqb a.op Operator.conditional (λ q. omega arith)
else-no-if a (node c cs r) h = refl

module _ (a : Token) (aa : Forest) (b : Token) (bs left right : Forest) where
  -- `? then : else`
  pub scan-else : is_token Operator.conditional_else a aa ≡ true → starts_with Operator.conditional left ≡ true
      → scan (node a aa (node b bs left)) right ≡ scan left (under a b bs right)
  scan-else e q = unfold scanned in scan-once a aa b bs left right ∙ rw (else-no-if a aa e, e, q) refl

  -- `cond ? right`, after which the `:` behind it may have got its `?`
  pub scan-pair : is_token Operator.conditional a aa ≡ true → starts_with Operator.conditional left ≡ true
      → scan (node a aa (node b bs left)) right ≡ scan left (pair_else (under a b bs right))
  scan-pair e q = unfold scanned in scan-once a aa b bs left right ∙ rw (e, q) refl

  pub scan-if : is_token Operator.conditional a aa ≡ true → starts_with Operator.conditional left ≡ false
      → scan (node a aa (node b bs left)) right ≡ scan left (under a b bs right)
  scan-if e q = unfold scanned in scan-once a aa b bs left right ∙ rw (e, q) refl

  -- no token, or a `:` without its `?`
  pub scan-on : is_token Operator.conditional a aa ≡ false → is_token Operator.conditional_else a aa ≡ false
      → scan (node a aa (node b bs left)) right ≡ scan (node b bs left) (node a aa right)
  scan-on e q = unfold scanned in scan-once a aa b bs left right ∙ rw (e, q) refl

  pub scan-stray : is_token Operator.conditional_else a aa ≡ true → starts_with Operator.conditional left ≡ false
      → scan (node a aa (node b bs left)) right ≡ scan (node b bs left) (node a aa right)
  scan-stray e q = unfold scanned in scan-once a aa b bs left right ∙ rw (else-no-if a aa e, e, q) refl

-- ---- two trees under an operator between them

module _ {W W' X : List ℕ} {q b c at l m l' m' : ℕ} {t u : Token} {k j : Forest} (w : Grouped W q b c at W') (v : RepT W X b l m t k)
    (x : RepT W X c l' m' u j)
    (before : m ≤ q) (after : q < l') (out : Out q X) where
  group-tree : {o : Token} → TokenAt W q o → 0 < q → slot_start m' ≤ at → RepT W' X q l m' o (node t k (node u j nil))
  group-tree {o} token pos above =
      let vl = v.low in
      let vh = tree-below v in
      let xl = x.low in
      let xh = tree-below x in
      let both : RepT w.Z X q l m' o (node t k (node u j nil))
      =
      attach-two-trees w.attached (tree-under q (inr before) v) (tree-under q (inl after) x) (omega arith) token pos out
      (omega arith) (omega arith) (le_refl l) (le_refl m') in
      tree-keep w.Z W' (λ s i y z e p n. set_other w.Z W' at q w.stored (slot_start s + i) (omega arith)) both

  pub group-kept : {lo hi : ℕ} → lo ≤ l → m' ≤ hi → (i : ℕ) → Free X lo hi i → i ≢ at → wd W' i ≡ wd W i
  group-kept low high i f n =
      let vl = v.low in
      let vh = tree-below v in
      let xl = x.low in
      let xh = tree-below x in
      set_other w.Z W' at q w.stored i n
      ∙ attach-two-kept w.attached (tree-under q (inr before) v) (tree-under q (inl after) x) (omega arith) out (omega arith)
      (omega arith) low high i f

group-same : {W W' : List ℕ} {q b c at : ℕ} → Grouped W q b c at W' → (i : ℕ) → i ≢ at → i ≢ first_word q → i ≢ next_word b → i ≢ next_word c
    → i ≢ classes_word q → wd W' i ≡ wd W i
group-same {W' = W'} {q = q} {at = at} w i n e f g h = set_other w.Z W' at q w.stored i n ∙ w.attached.same i e f g h

pub group-long : {W W' : List ℕ} {q b c at : ℕ} → Grouped W q b c at W' → length W' ≡ length W
group-long {W' = W'} {q = q} {at = at} w = set_long w.Z W' at q w.stored ∙ w.attached.long

-- ---- the last two unread items

-- The operator a, a leaf, with the tree b before it.
pub data LastTwo (W X : List ℕ) (base n lo l : ℕ) : Forest → Type 0 where
  two : {h i e f : ℕ} {a b : Token} {aa bs left : Forest} → RepT W X (wd W (base + (n - 1))) h i a aa → i ≤ l
      → RepT W X (wd W (base + (n - 2))) e f b bs → f ≤ h
      → BackArray W X base (n - 2) lo e left → LastTwo W X base n lo l (node a aa (node b bs left))

pub last-two : {W X : List ℕ} {base n lo l : ℕ} {rest : Forest} → BackArray W X base n lo l rest → 2 ≤ n → LastTwo W X base n lo l rest
last-two {W} {X} {base} {n} {lo} {l} v z = outer (unread-last v (omega arith))
  where
    less : n - 1 - 1 ≡ n - 2
    less = omega arith

    inner : {h i : ℕ} {a : Token} {aa rest : Forest} → RepT W X (wd W (base + (n - 1))) h i a aa → i ≤ l
        → LastUnread W X base (n - 1) lo h rest → LastTwo W X base n lo l (node a aa rest)
    inner t y (last {a = e} {c = f} {p = b} {ps = bs} {left = left} u g r) =
        two t y (subst (λ (x : ℕ). RepT W X (wd W (base + x)) e f b bs) less u) g (subst (λ (x : ℕ). BackArray W X base x lo e left) less r)

    outer : {rest : Forest} → LastUnread W X base n lo l rest → LastTwo W X base n lo l rest
    outer (last t y r) = inner t y (unread-last r (omega arith))

-- `fold_last`: the operator stands over both, in the word of the first done item
pub data FoldedTo (W' X : List ℕ) (lo hi base len left right : ℕ) : Forest → Forest → Type 0 where
  folded : {a b : Token} {bs left' R : Forest} {e : ℕ} → RightList W' X lo e e hi (scan_at base len (left - 2) right) (under a b bs R) left'
      → FoldedTo W' X lo hi base len left right (node a nil (node b bs left')) R

module _ {W W' X : List ℕ} {lo l m hi base len left right : ℕ} (w : FoldedLast W base left right W') (z : 2 ≤ left) (behind : left ≤ right)
    (full : right < len) where
  fold-two : {a b : Token} {bs rest R : Forest} → RightList W X lo l m hi (scan_at base len left right) R (node a nil (node b bs rest))
      → LastTwo W X base left lo l (node a nil (node b bs rest)) → AheadTo W X base right len m hi (wd W (base + right)) R
      → FoldedTo W' X lo hi base len left right (node a nil (node b bs rest)) R
  unfolding under
  fold-two {a} list (two {h = h} {i = i} {e = e} {f = f} {b = b} {bs = bs} {left = rest} ta y tb g r)
      (item {a = c} {m = d} {k = x} {cs = xs} {rest = more} low t after) =
      let at = base + right in
      let q = wd W (base + (left - 1)) in
      let p = wd W (base + (left - 2)) in
      let s = wd W at in
      let mid = list.mid in
      let below = list.below in
      let within = list.within in
      let top = (ahead-le after).0 in
      let ql = ta.low in
      let qh = tree-below ta in
      let pl = tb.low in
      let ph = tree-below tb in
      let sl = t.low in
      let sh = tree-below t in
      let long = group-long w in
      let taken = group-tree w tb t (omega arith) (omega arith) (tree-out ta) ta.token ta.pos (omega arith) in
      let slots : (u o : ℕ) → u < hi → o < slot_words → u ≢ q → u ≢ p → u ≢ s → wd W' (slot_start u + o) ≡ wd W (slot_start u + o)
      = λ u o k1 k2 k3 k4 k5. group-same w (slot_start u + o) (omega arith) (omega arith) (omega arith) (omega arith) (omega arith) in
      let words : (j : ℕ) → base ≤ j → j ≢ at → wd W' j ≡ wd W j
      = λ j k1 k2. group-same w j k2 (omega arith) (omega arith) (omega arith) (omega arith) in
      folded
      (record {
        unread =
            back-array-keep W W' (λ u o k1 k2 k3 k4. slots u o (omega arith) k3 (omega arith) (omega arith) (omega arith))
            (λ j k1 k2. words j k1 (omega arith)) r;
        done = ahead-cons (le_refl e) taken (set_same w.Z W' at q w.stored (omega (arith, w.attached.long)))
            (ahead-keep W W' (λ u o k1 k2 k3 k4. slots u o k2 k3 (omega arith) (omega arith) (omega arith))
            (λ j k1 k2. words j (omega arith) (omega arith)) after);
        mid = le_refl e;
        below = below;
        within = rw long within;
        small = rw long list.small;
      })

-- `fold_last` at a list whose last unread item is a token
pub fold-last : {W W' X : List ℕ} {lo l m hi base len left right : ℕ} {a b : Token} {bs rest R : Forest} → FoldedLast W base left right W'
    → 2 ≤ left → left ≤ right → right < len
    → RightList W X lo l m hi (scan_at base len left right) R (node a nil (node b bs rest))
    → FoldedTo W' X lo hi base len left right (node a nil (node b bs rest)) R
fold-last {W} {base = base} {right = right} w z behind full list =
    fold-two w z behind full list (last-two list.unread z) (ahead-item (wd W (base + right)) refl full list.done)

-- ---- an item that stays as it is

pub data KeptTo (W' X : List ℕ) (lo hi base len left right : ℕ) (R : Forest) : Forest → Type 0 where
  kept : {a : Token} {aa rest : Forest} {e : ℕ} → RightList W' X lo e e hi (scan_at base len (left - 1) (right - 1)) (node a aa R) rest
      → KeptTo W' X lo hi base len left right R (node a aa rest)

pub keep-last : {W W' X : List ℕ} {lo l m hi base len left right : ℕ} {R L : Forest}
    → RightList W X lo l m hi (scan_at base len left right) R L → 0 < left → left ≤ right
    → W' ≡ set W (base + (right - 1)) (wd W (base + (left - 1))) → KeptTo W' X lo hi base len left right R L
keep-last {W} {W'} {X} {lo} {l} {m} {hi} {base} {len} {left} {right} {R} list z behind ew = go (unread-last list.unread z)
  where
    go : {L : Forest} → LastUnread W X base left lo l L → KeptTo W' X lo hi base len left right R L
    go (last {a = a} {c = c} {p = p} {ps = ps} {left = rest} t h r) =
        let at = base + (right - 1) in
        let b = wd W (base + (left - 1)) in
        let other = set_other W W' at b ew in
        let long = set_long W W' at b ew in
        let below = list.below in
        let mid = list.mid in
        let within = list.within in
        let top = ahead-le list.done in
        let low = t.low in
        let high = tree-below t in
        let next : right ≡ right - 1 + 1 = omega arith in
        let t' : RepT W' X b a m p ps =
        tree-widen (le_refl a) (omega arith) (tree-keep W W' (λ x o y u q n k. other (slot_start x + o) (omega arith)) t) in
        let done : Ahead W' X base right len m hi R =
        ahead-keep W W' (λ x o y u q n. other (slot_start x + o) (omega arith)) (λ j y u. other j (omega arith)) list.done in
        kept
        (record {
          unread = back-array-keep W W' (λ x o y u q n. other (slot_start x + o) (omega arith)) (λ j y u. other j (omega arith)) r;
          done =
              ahead-cons (le_refl a) t' (set_same W W' at b ew (omega arith)) (subst (λ (i : ℕ). Ahead W' X base i len m hi R) next done);
          mid = le_refl a;
          below = below;
          within = rw long within;
          small = rw long list.small;
        })

-- ---- `folded : x` becomes an else-pair

pub data PairedTo (W' X : List ℕ) (lo l hi base len left right : ℕ) (L : Forest) : Forest → Type 0 where
  paired : {f c x : Token} {fs xs r : Forest} {e : ℕ}
      → RightList W' X lo l e hi (scan_at base len left (right + 1 + 1)) (node c (node f fs (node x xs nil)) r) L
      → PairedTo W' X lo l hi base len left right L (node f fs (node c nil (node x xs r)))

pub pair-else : {W W' X : List ℕ} {lo l m hi base len left right : ℕ} {f c x : Token} {fs xs r L : Forest}
    → RightList W X lo l m hi (scan_at base len left right) (node f fs (node c nil (node x xs r))) L → left ≤ right → right + 1 + 1 < len
    → Grouped W (wd W (base + (right + 1))) (wd W (base + right)) (wd W (base + (right + 1 + 1))) (base + (right + 1 + 1)) W'
    → PairedTo W' X lo l hi base len left right L (node f fs (node c nil (node x xs r)))
pair-else {W} {W'} {X} {lo} {l} {m} {hi} {base} {len} {left} {right} {L = L} list behind full w =
    one (ahead-item (wd W (base + right)) refl (omega arith) list.done)
  where
    three : {a b d e y z : ℕ} {f c x : Token} {fs xs r : Forest} → m ≤ a → RepT W X (wd W (base + right)) a b f fs → b ≤ d
        → RepT W X (wd W (base + (right + 1))) d e c nil
        → e ≤ y → RepT W X (wd W (base + (right + 1 + 1))) y z x xs → Ahead W X base (right + 1 + 1 + 1) len z hi r
        → PairedTo W' X lo l hi base len left right L (node f fs (node c nil (node x xs r)))
    three {a} {b} {d} {e} {y} {z} low tf gc tc gx tx after =
        let at = base + (right + 1 + 1) in
        let q = wd W (base + (right + 1)) in
        let p = wd W (base + right) in
        let s = wd W at in
        let mid = list.mid in
        let below = list.below in
        let within = list.within in
        let top = (ahead-le after).0 in
        let ql = tc.low in
        let qh = tree-below tc in
        let pl = tf.low in
        let ph = tree-below tf in
        let sl = tx.low in
        let sh = tree-below tx in
        let long = group-long w in
        let taken = group-tree w tf tx (omega arith) (omega arith) (tree-out tc) tc.token tc.pos (omega arith) in
        let slots : (u o : ℕ) → u < hi → o < slot_words → u ≢ q → u ≢ p → u ≢ s → wd W' (slot_start u + o) ≡ wd W (slot_start u + o)
        = λ u o k1 k2 k3 k4 k5. group-same w (slot_start u + o) (omega arith) (omega arith) (omega arith) (omega arith) (omega arith) in
        let words : (j : ℕ) → base ≤ j → j ≢ at → wd W' j ≡ wd W j
        = λ j k1 k2. group-same w j k2 (omega arith) (omega arith) (omega arith) (omega arith) in
        paired
        (record {
          unread =
              back-array-keep W W' (λ u o k1 k2 k3 k4. slots u o (omega arith) k3 (omega arith) (omega arith) (omega arith))
              (λ j k1 k2. words j k1 (omega arith)) list.unread;
          done = ahead-cons (le_refl a) taken (set_same w.Z W' at q w.stored (omega (arith, w.attached.long)))
              (ahead-keep W W' (λ u o k1 k2 k3 k4. slots u o k2 k3 (omega arith) (omega arith) (omega arith))
              (λ j k1 k2. words j (omega arith) (omega arith)) after);
          mid = omega arith;
          below = below;
          within = rw long within;
          small = rw long list.small;
        })

    two : {a b d e : ℕ} {f c x : Token} {fs xs r : Forest} → m ≤ a → RepT W X (wd W (base + right)) a b f fs → b ≤ d
        → RepT W X (wd W (base + (right + 1))) d e c nil
        → AheadTo W X base (right + 1 + 1) len e hi (wd W (base + (right + 1 + 1))) (node x xs r)
        → PairedTo W' X lo l hi base len left right L (node f fs (node c nil (node x xs r)))
    two low tf gc tc (item gx tx after) = three low tf gc tc gx tx after

    second : {a b : ℕ} {f c x : Token} {fs xs r : Forest} → m ≤ a → RepT W X (wd W (base + right)) a b f fs
        → AheadTo W X base (right + 1) len b hi (wd W (base + (right + 1))) (node c nil (node x xs r))
        → PairedTo W' X lo l hi base len left right L (node f fs (node c nil (node x xs r)))
    second low tf (item gc tc after) = two low tf gc tc (ahead-item (wd W (base + (right + 1 + 1))) refl full after)

    one : {f c x : Token} {fs xs r : Forest} → AheadTo W X base right len m hi (wd W (base + right)) (node f fs (node c nil (node x xs r)))
        → PairedTo W' X lo l hi base len left right L (node f fs (node c nil (node x xs r)))
    one (item low tf after) = second low tf (ahead-item (wd W (base + (right + 1))) refl (omega arith) after)
