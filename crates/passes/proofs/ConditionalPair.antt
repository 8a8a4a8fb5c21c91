-- A folded `?` in the scan: `fold_else` after `fold_last`.
use Prim.Native.Nat.{ℕ, ◌+◌, ◌-◌, ◌≤◌, ◌<◌}
use mathlib.Core.{Path.{◌≡◌, refl, sym, ap, ◌∙◌, subst}, Logic.{◌≢◌, ⊎_elim}, Bool.{Bool, true, false, true≢false}, List.{List}}
use native.Mathlib.Omega.{arith}
use lib.ListN.{length}
use Rattle.molang.specs.Operator
use Rattle.molang.specs.{Forest.{Token, Forest, nil, node, count}, Conditional.{is_token, starts_with, under, pair_else, scan}}
use Rattle.nodes.specs.{Store.{wd, RepT, Kept}, Slots.{is_token_at}}
use Rattle.nodes.proofs.{Store.{rep-count, tree-below, tree-out, back-le}, Trees.{token-test}}
use Rattle.nodes.specs.declared.frames.List.{List as Items}
use Rattle.levels.{specs.Passes.{moved_to}, specs.Items.{Ahead}, proofs.Reading.{AheadTo, item, ahead-item, ahead-le}}
use Rattle.passes.specs.Unary.{RightList}
use Rattle.passes.specs.Conditional.{scan_at, Grouped, FoldedLast, CanFoldElse, ElseFolded, start, short, no_if, no_else, pair, CanScan}
use Rattle.passes.specs.Conditional.{ScanTo, FoldedNext}
use Rattle.passes.proofs.ConditionalFold.{scan-pair, scan-if, group-kept, group-long, LastTwo, two, last-two, FoldedTo, folded}
use Rattle.passes.proofs.ConditionalFold.{fold-last, PairedTo, paired, pair-else}
use Rattle.passes.proofs.ConditionalScan.{unread-slot, done-slot, starts-at, starts_none, token-leaf, fold-kept}

-- ---- the else-pair of the definition

unfoldable paired_if : Bool → Forest → Forest
paired_if true f = pair_else f
paired_if false f = f

scan-question : (a : Token) (aa : Forest) (b : Token) (bs left right : Forest) → is_token Operator.conditional a aa ≡ true
    → scan (node a aa (node b bs left)) right ≡ scan left (paired_if (starts_with Operator.conditional left) (under a b bs right))
unfolding paired_if
scan-question a aa b bs left right e = go (starts_with Operator.conditional left) refl
  where
    go : (t : Bool) → starts_with Operator.conditional left ≡ t
        → scan (node a aa (node b bs left)) right ≡ scan left (paired_if t (under a b bs right))
    go true q = scan-pair a aa b bs left right e q
    go false q = scan-if a aa b bs left right e q

pair-short : (t : Bool) (f : Forest) → count f < 3 → paired_if t f ≡ f
unfolding paired_if pair_else count
pair-short false f h = refl
pair-short true nil h = refl
pair-short true (node f fs nil) h = refl
pair-short true (node f fs (node c cs nil)) h = refl
pair-short true (node f fs (node c cs (node x xs r))) h = absurd (omega arith)

-- Three items at least, the second a `:` or not.
data Third (b : Bool) : Forest → Type 0 where
  third : {f c x : Token} {fs cs xs r : Forest} → is_token Operator.conditional_else c cs ≡ b → Third b (node f fs (node c cs (node x xs r)))

third_of : {W X : List ℕ} {base right len lo hi : ℕ} {R : Forest} {b : Bool} → Ahead W X base right len lo hi R → right + 2 < len
    → is_token_at W (wd W (base + (right + 1))) Operator.conditional_else ≡ b → Third b R
third_of {W} {X} {base} {right} {len} {lo} {hi} {R} {b} v h e = one (ahead-item (wd W (base + right)) refl (omega arith) v)
  where
    three : {a : ℕ} {f c : Token} {fs cs R : Forest} → is_token Operator.conditional_else c cs ≡ b
        → AheadTo W X base (right + 1 + 1) len a hi (wd W (base + (right + 1 + 1))) R → Third b (node f fs (node c cs R))
    three t (item low u r) = third t

    two' : {a : ℕ} {f : Token} {fs R : Forest} → AheadTo W X base (right + 1) len a hi (wd W (base + (right + 1))) R → Third b (node f fs R)
    two' (item {cs = cs} low u r) =
        three (sym (token-test Operator.conditional_else cs u) ∙ e) (ahead-item (wd W (base + (right + 1 + 1))) refl (omega arith) r)

    one : {R : Forest} → AheadTo W X base right len lo hi (wd W (base + right)) R → Third b R
    one (item low u r) = two' (ahead-item (wd W (base + (right + 1))) refl (omega arith) r)

pair-no : (t : Bool) {f : Forest} → Third false f → paired_if t f ≡ f
unfolding paired_if pair_else
pair-no false h = refl
pair-no true (third e) = rw (e, pair_else) refl

-- ---- `fold_else` on the list

record AfterIf (W2 X : List ℕ) (lo hi base len left right : ℕ) (rest R : Forest) : Type 0 where
  l : ℕ
  m : ℕ
  R2 : Forest
  list : RightList W2 X lo l m hi (scan_at base len left right) R2 rest
  same : R2 ≡ paired_if (starts_with Operator.conditional rest) R
  behind : left ≤ right
  full : right < len

module _ {W X : List ℕ} {lo l m hi base len left right : ℕ} {R rest : Forest}
    (list : RightList W X lo l m hi (scan_at base len left right) R rest) (behind : left ≤ right) (full : right < len) where
  stays : R ≡ paired_if (starts_with Operator.conditional rest) R → AfterIf W X lo hi base len left right rest R
  stays e = record { l = l; m = m; R2 = R; list = list; same = e; behind = behind; full = full }

  no-if : starts_with Operator.conditional rest ≡ false → R ≡ paired_if (starts_with Operator.conditional rest) R
  no-if e = unfold paired_if in rw e refl

  few-done : len - right < 3 → count R < 3
  few-done h = omega (arith, list.done.count, list.done.array.count, rep-count list.done.array.rep)

-- the `:` takes both: the first tree of R and the third
pair-up : {W W' X : List ℕ} {lo l m hi base len left right : ℕ} {R rest : Forest}
    → RightList W X lo l m hi (scan_at base len left right) R rest → left ≤ right → right + 2 < len
    → starts_with Operator.conditional rest ≡ true → Third true R
    → Grouped W (wd W (base + (right + 1))) (wd W (base + right)) (wd W (base + (right + 2))) (base + (right + 2)) W'
    → AfterIf W' X lo hi base len left (right + 2) rest R
unfolding paired_if pair_else is_token
pair-up {W} {W'} {X} {lo} {l} {m} {hi} {base} {len} {left} {right} {rest = rest} list behind full s
    (third {f = f} {c = c} {x = x} {fs = fs} {cs = nil} {xs = xs} {r = r} e) w =
    let again : right + 2 ≡ right + 1 + 1 = omega arith in
    let w' = subst (λ (i : ℕ). Grouped W (wd W (base + (right + 1))) (wd W (base + right)) (wd W (base + i)) (base + i) W') again w in
    go (pair-else list behind (omega arith) w')
  where
    go : PairedTo W' X lo l hi base len left right rest (node f fs (node c nil (node x xs r)))
        → AfterIf W' X lo hi base len left (right + 2) rest (node f fs (node c nil (node x xs r)))
    go (paired {e = d} list') =
        let again : right + 1 + 1 ≡ right + 2 = omega arith in
        record {
          l = l;
          m = d;
          R2 = node c (node f fs (node x xs nil)) r;
          list =
              subst (λ (i : ℕ). RightList W' X lo l d hi (scan_at base len left i) (node c (node f fs (node x xs nil)) r) rest) again list';
          same = sym (rw (s, paired_if) (rw (e, pair_else) refl));
          behind = omega arith;
          full = full;
        }
pair-up list behind full s (third {cs = node d ds t} e) w = absurd (true≢false (sym e))

after-if : {W W' X : List ℕ} {lo l m hi base len left right r : ℕ} {R rest : Forest}
    → RightList W X lo l m hi (scan_at base len left right) R rest → left ≤ right → right < len
    → ElseFolded W base len left right r W' → AfterIf W' X lo hi base len left r rest R
after-if list behind full (start e) = stays list behind full (no-if list behind full (starts_none Operator.conditional list.unread e))
after-if {R = R} {rest = rest} list behind full (short h) =
    stays list behind full (sym (pair-short (starts_with Operator.conditional rest) R (few-done list behind full h)))
after-if list behind full (no_if z q) =
    stays list behind full (no-if list behind full (sym (starts-at Operator.conditional list.unread z) ∙ q))
after-if {rest = rest} list behind full (no_else h q) =
    stays list behind full (sym (pair-no (starts_with Operator.conditional rest) (third_of list.done h q)))
after-if list behind full (pair z h q c w) =
    pair-up list behind h (sym (starts-at Operator.conditional list.unread z) ∙ q) (third_of list.done h c) w

-- ---- `fold_last` and `fold_else`

module _ {W W1 : List ℕ} {base len left right : ℕ} (g : CanScan W base len left right) (z : 2 ≤ left)
    (e : is_token_at W (wd W (base + (left - 1))) Operator.conditional ≡ true) (w : FoldedLast W base left right W1) where
  -- What holds of every fold holds of this one.
  with-fold : (Q : Forest → Type 0)
      → ((a b : Token) (bs rest : Forest) (d : ℕ) → is_token Operator.conditional a nil ≡ true
      → RightList W1 g.X g.lo d d g.hi (scan_at base len (left - 2) right) (under a b bs g.R) rest
      → Q (node a nil (node b bs rest))) → Q g.L
  with-fold Q f = go g.list (last-two g.list.unread z)
    where
      at : {a b : Token} {bs rest : Forest} → is_token Operator.conditional a nil ≡ true
          → FoldedTo W1 g.X g.lo g.hi base len left right (node a nil (node b bs rest)) g.R
          → Q (node a nil (node b bs rest))
      at t (folded {a = a} {b = b} {bs = bs} {left' = rest} {e = d} list) = f a b bs rest d t list

      leafy : {a b : Token} (aa : Forest) {bs rest : Forest}
          → RightList W g.X g.lo g.l g.m g.hi (scan_at base len left right) g.R (node a aa (node b bs rest))
          → is_token Operator.conditional a aa ≡ true → aa ≡ nil → Q (node a aa (node b bs rest))
      leafy {a} {b} aa {bs} {rest} list t n =
          subst
          (λ (h : Forest). RightList W g.X g.lo g.l g.m g.hi (scan_at base len left right) g.R
          (node a h (node b bs rest)) → is_token Operator.conditional a h ≡ true
          → Q (node a h (node b bs rest)))
          (sym n) (λ list t. at t (fold-last w z g.behind g.full list)) list t

      go : {L : Forest} → RightList W g.X g.lo g.l g.m g.hi (scan_at base len left right) g.R L
          → LastTwo W g.X base left g.lo g.l L → Q L
      go list (two {a = a} {aa = aa} ta y tb h r) =
          let t = sym (token-test Operator.conditional aa ta) ∙ e in
          leafy aa list t (token-leaf Operator.conditional a aa t)

  pub else-can : CanFoldElse W1 base len (left - 2) right
  else-can =
      with-fold (λ L. CanFoldElse W1 base len (left - 2) right)
      (λ a b bs rest d t list.
      let behind = g.behind in
      let full = g.full in
      let within = list.within in
      let below = list.below in
      let top = (ahead-le list.done).0 in
      record {
        within = within;
        behind = omega arith;
        full = full;
        slot = λ i h. omega (arith, unread-slot list.unread i h);
        done = λ i h k. omega (arith, (done-slot list.done i h k).1);
        apart = λ h. rising list h;
      })
    where
      rising : {L R : Forest} {d : ℕ} → RightList W1 g.X g.lo d d g.hi (scan_at base len (left - 2) right) R L → right + 2 < len
          → wd W1 (base + right) ≢ wd W1 (base + (right + 2))
      rising {d = d} list h = first (ahead-item (wd W1 (base + right)) refl (omega arith) list.done)
        where
          first : {R : Forest} → AheadTo W1 g.X base right len d g.hi (wd W1 (base + right)) R
              → wd W1 (base + right) ≢ wd W1 (base + (right + 2))
          first (item low u r) = let later = done-slot r (right + 2) (omega arith) h in omega (arith, tree-below u)

  scanned-if : {W' : List ℕ} {r : ℕ} → ElseFolded W1 base len (left - 2) right r W'
      → ScanTo W' g.X g.lo g.hi base len g.L g.R (left - 2) r
  scanned-if {W'} {r} o =
      with-fold (λ L. ScanTo W' g.X g.lo g.hi base len L g.R (left - 2) r)
      (λ a b bs rest d t list.
      let v = after-if list (omega (arith, g.behind)) g.full o in
      record {
        l = v.l;
        m = v.m;
        L' = rest;
        R' = v.R2;
        list = v.list;
        same = scan-question a nil b bs rest g.R t ∙ ap (scan rest) (sym v.same);
        behind = v.behind;
        full = v.full;
      })

-- ---- what is kept

else-kept : {W W' X : List ℕ} {lo l m hi base len left right r : ℕ} {R rest : Forest}
    → RightList W X lo l m hi (scan_at base len left right) R rest → ElseFolded W base len left right r W'
    → Kept W W' X lo hi base (base + len)
else-kept list (start e) j f o = refl
else-kept list (short h) j f o = refl
else-kept list (no_if z q) j f o = refl
else-kept list (no_else h q) j f o = refl
else-kept {W} {W'} {X} {lo} {l} {m} {hi} {base} {len} {left} {right} list (pair z h q c w) j f o =
    one (ahead-item (wd W (base + right)) refl (omega arith) list.done)
  where
    again : right + 1 + 1 ≡ right + 2
    again = omega arith

    three : {a b d e : ℕ} {g k : Token} {gs ks R : Forest} → m ≤ a → RepT W X (wd W (base + right)) a b g gs → b ≤ d
        → RepT W X (wd W (base + (right + 1))) d e k ks
        → AheadTo W X base (right + 1 + 1) len e hi (wd W (base + (right + 2))) R → wd W' j ≡ wd W j
    three low tf gc tc (item gx tx after) =
        let mid = list.mid in
        group-kept w tf tx (omega (arith, tc.low)) (omega (arith, tree-below tc)) (tree-out tc)
        (omega (arith, back-le list.unread.rep)) (ahead-le after).0 j f
        (⊎_elim (λ x. omega arith) (λ x. omega arith) o)

    two' : {a b : ℕ} {g : Token} {gs R : Forest} → m ≤ a → RepT W X (wd W (base + right)) a b g gs
        → AheadTo W X base (right + 1) len b hi (wd W (base + (right + 1))) R → wd W' j ≡ wd W j
    two' low tf (item gc tc after) =
        three low tf gc tc (ahead-item (wd W (base + (right + 2))) (ap (λ (i : ℕ). wd W (base + i)) again) (omega arith) after)

    one : {R : Forest} → AheadTo W X base right len m hi (wd W (base + right)) R → wd W' j ≡ wd W j
    one (item low tf after) = two' low tf (ahead-item (wd W (base + (right + 1))) refl (omega arith) after)

else-long : {W W' : List ℕ} {base len left right r : ℕ} → ElseFolded W base len left right r W' → length W' ≡ length W
else-long (start e) = refl
else-long (short h) = refl
else-long (no_if z q) = refl
else-long (no_else h q) = refl
else-long (pair z h q c w) = group-long w

pub next-if : {W W1 W' : List ℕ} {v r : Items} → 2 ≤ v.read → is_token_at W (wd W (v.base + (v.read - 1))) Operator.conditional ≡ true
    → FoldedLast W v.base v.read v.write W1
    → ElseFolded W1 v.base v.len (v.read - 2) v.write r.write W' → r ≡ moved_to v (v.read - 2) r.write → FoldedNext W v r W'
next-if {W} {W1} {W'} {v} {r} z e w o m =
    rw m
    (record {
      to = λ g. scanned-if g z e w o;
      kept = λ g.
          with-fold g z e w (λ L. Kept W W' g.X g.lo g.hi v.base (v.base + v.len))
          (λ a b bs rest d t list j f h. else-kept list o j f h ∙ fold-kept g z w j f h);
      moved = refl;
      less = omega arith;
      long = else-long o ∙ group-long w;
    })
