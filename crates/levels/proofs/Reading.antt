-- Lists under work, read from the left: the next unread item as a tree, what the tests of an item say, an item that goes to the done ones,
-- and what a change of words leaves of either side.
use Prim.Native.Nat.{ℕ, ◌+◌, ◌≤◌, ◌<◌}
use mathlib.Core.{Path.{◌≡◌, refl, sym, ap, ◌∙◌, subst, subst₂}, Logic.{◌≢◌}, Bool.{Bool, true, false, not, ◌&&◌, true≢false}}
use mathlib.Core.List.{List, ◌∷◌}
use native.Mathlib.{Omega.{arith}, Decide.{ℕ_discrete}}
use lib.{ListN.{length}}
use borrow.Author.Tests.{eq-eqb, ne_eqb, not-true, not-false}
use Rattle.std.specs.Prelude.{Option, None, Some}
use Rattle.molang.specs.{Forest.{Token, Forest, nil, node}, Free.{free, is_nil}}
use Rattle.ops.specs.Classes.{shares}
use Rattle.nodes.specs.Store.{wd, slot_words, slot_start, slot_end, classes_at, Seg, Out, RepF, ends, more, RepT, put, InArray}
use Rattle.nodes.specs.{Slots.{op_at, is_leaf_at}, declared.frames.List.{List as Items}}
use Rattle.nodes.proofs.{Runs.{seg-keep, seg_b-keep}, Store.{rep-keep, rep-le, tree-below, tree-keep, back-le, back-raise, back_keep}}
use Rattle.nodes.proofs.{Classes.{notes-meet, free_one}, Trees.{leaf-test, tree-op}}
use Rattle.levels.specs.{Passes.{Covers}, Items.{BackArray, Ahead, CanPeek, next_if, inner_at}, Turns.{Within}}

-- ---- a change of words

-- the slots from lo to hi that are not in X are as they were
abbrev pub SameSlots : List ℕ → List ℕ → List ℕ → ℕ → ℕ → Type 0
SameSlots W W' X lo hi = (s o : ℕ) → lo ≤ s → s < hi → o < slot_words → Out s X → wd W' (slot_start s + o) ≡ wd W (slot_start s + o)

-- the words from a to b are as they were
abbrev pub SameWords : List ℕ → List ℕ → ℕ → ℕ → Type 0
SameWords W W' a b = (j : ℕ) → a ≤ j → j < b → wd W' j ≡ wd W j

-- no word is changed
pub same-within : {W X : List ℕ} {lo hi : ℕ} {v : Items} → Within W W X lo hi v
same-within = record { kept = λ j x o. refl; long = refl }

module _ (W W' : List ℕ) where
  pub back-array-keep : {X : List ℕ} {at n lo hi : ℕ} {d : Forest} → SameSlots W W' X lo hi → SameWords W W' at (at + n)
      → BackArray W X at n lo hi d → BackArray W' X at n lo hi d
  back-array-keep {at = at} slots words v =
      record {
        ds = v.ds;
        seg = seg_b-keep W W' at v.ds (λ j a b. words j a (omega (arith, v.count))) v.seg;
        count = v.count;
        rep = back_keep W W' (λ s o a b c x y. slots s o a b c x) v.rep;
      }

  pub array-keep : {X : List ℕ} {at n lo hi : ℕ} {f : Forest} → SameSlots W W' X lo hi → SameWords W W' at (at + n)
      → InArray W X at n lo hi f → InArray W' X at n lo hi f
  array-keep {at = at} slots words v =
      record {
        bs = v.bs;
        seg = seg-keep W W' at v.bs (λ j a b. words j a (omega (arith, v.count))) v.seg;
        count = v.count;
        rep = rep-keep W W' (λ s o a b c x y. slots s o a b c x) v.rep;
      }

  pub ahead-keep : {X : List ℕ} {base read len lo hi : ℕ} {f : Forest} → SameSlots W W' X lo hi → SameWords W W' (base + read) (base + len)
      → Ahead W X base read len lo hi f → Ahead W' X base read len lo hi f
  ahead-keep slots words v =
      record { n = v.n; count = v.count; array = array-keep slots (λ j a b. words j a (omega (arith, v.count))) v.array }

-- ---- the next item

-- The item b is the tree k over cs, in the slots from a to m, and `rest` comes after it.
pub data AheadTo (W X : List ℕ) (base read len lo hi b : ℕ) : Forest → Type 0 where
  item : {a m : ℕ} {k : Token} {cs rest : Forest} → lo ≤ a → RepT W X b a m k cs → Ahead W X base (read + 1) len m hi rest
      → AheadTo W X base read len lo hi b (node k cs rest)

array-item : {W X : List ℕ} {base read len n lo hi b : ℕ} {bs : List ℕ} {f : Forest} → RepF W X bs lo hi f → Seg W (base + read) bs
    → n ≡ length bs → read + n ≡ len
    → read < len → wd W (base + read) ≡ b → AheadTo W X base read len lo hi b f
array-item (ends h) g e c l w = absurd (omega arith)
array-item {W} {X} {base} {read} {len} {n} {hi = hi}
    (more {b = b} {bs = bs} {l = a} {m = m} {t = t} {k = k} {f = f} {cs = cs} low c d z p tk q ch ks r) g e h l w =
    let same : b ≡ wd W (base + read) = sym g.0 in
    let own : RepT W X b a m t k = record { cs = cs; low = c; high = d; pos = z; out = p; token = tk; noted = q; chain = ch; kids = ks } in
    let next : base + read + 1 ≡ base + (read + 1) = omega arith in
    item low (subst (λ (x : ℕ). RepT W X x a m t k) (same ∙ w) own)
    (record { n = length bs; count = omega arith; array = record { bs = bs; seg = rw next at g.1; count = refl; rep = r } })

pub ahead-item : {W X : List ℕ} {base read len lo hi : ℕ} {f : Forest} (b : ℕ) → wd W (base + read) ≡ b → read < len
    → Ahead W X base read len lo hi f
    → AheadTo W X base read len lo hi b f
ahead-item b w l v = array-item v.array.rep v.array.seg v.array.count v.count l w

none_left : {W X : List ℕ} {lo hi : ℕ} {bs : List ℕ} (f : Forest) → RepF W X bs lo hi f → length bs ≡ 0 → f ≡ nil
none_left nil (ends h) e = refl
none_left (node k cs f) (more low c d z p tk q ch ks r) e = absurd (omega arith)

-- nothing is left
pub ahead-end : {W X : List ℕ} {base read len lo hi : ℕ} (f : Forest) → len ≤ read → Ahead W X base read len lo hi f → f ≡ nil
ahead-end f l v = none_left f v.array.rep (omega (arith, v.count, v.array.count))

pub ahead-le : {W X : List ℕ} {base read len lo hi : ℕ} {f : Forest} → Ahead W X base read len lo hi f → (lo ≤ hi) × (read ≤ len)
ahead-le v = (rep-le v.array.rep, omega (arith, v.count))

-- ---- the tests of an item

module _ {W X : List ℕ} {b a m : ℕ} {k : Token} {cs : Forest} (t : RepT W X b a m k cs) (c : ℕ) (P : ℕ → Bool) (e : Covers c P) where
  -- it shares a class with the pass exactly where a leaf of the pass is at or below it
  pub tree_shares : shares (classes_at W b) c ≡ not (free P (node k cs nil))
  tree_shares = notes-meet c P e t.noted

-- the tree has no leaf of the pass
pub tree_free : {W X : List ℕ} {b a m : ℕ} {k : Token} {cs : Forest} (c : ℕ) (P : ℕ → Bool) → Covers c P → RepT W X b a m k cs
    → shares (classes_at W b) c ≡ false → free P (node k cs nil) ≡ true
tree_free {k = k} {cs = cs} c P e t h = not-false (free P (node k cs nil)) (sym (tree_shares t c P e) ∙ h)

-- the tree has a leaf of the pass
pub tree-unfree : {W X : List ℕ} {b a m : ℕ} {k : Token} {cs : Forest} (c : ℕ) (P : ℕ → Bool) → Covers c P → RepT W X b a m k cs
    → shares (classes_at W b) c ≡ true → free P (node k cs nil) ≡ false
tree-unfree {k = k} {cs = cs} c P e t h = not-true (free P (node k cs nil)) (sym (tree_shares t c P e) ∙ h)

leaf-passes : (x : Bool) → (not x && true) ≡ false → x ≡ true
leaf-passes true h = refl
leaf-passes false h = absurd (true≢false h)

-- a leaf that is not free of P is one of P
pub unfree-leaf : (P : ℕ → Bool) (k : Token) → free P (node k nil nil) ≡ false → P k.op ≡ true
unfree-leaf P k h = unfold free in leaf-passes (P k.op) h

-- below a node that is not free of P, and has children, there is a leaf of P
pub unfree-tree : (P : ℕ → Bool) (k : Token) (cs : Forest) → is_nil cs ≡ false → free P (node k cs nil) ≡ false → free P cs ≡ false
unfolding is_nil
unfree-tree P k nil e h = absurd (true≢false e)
unfree-tree P k (node c cs r) e h = sym (free_one P k c cs r) ∙ h

pub free-tree-below : (P : ℕ → Bool) (k : Token) (cs : Forest) → is_nil cs ≡ false → free P (node k cs nil) ≡ true → free P cs ≡ true
unfolding is_nil
free-tree-below P k nil e h = absurd (true≢false e)
free-tree-below P k (node c cs r) e h = sym (free_one P k c cs r) ∙ h

-- ---- an item goes to the done ones

module _ (W W' : List ℕ) {X : List ℕ} {at n lo l a m hi b : ℕ} {d cs : Forest} {k : Token} where
  -- the word behind the done items has the item's slot, and the words of the done items and of the item's tree are as they were
  pub array-put : BackArray W X at n lo l d → RepT W X b a m k cs → l ≤ a → m ≤ hi
      → SameSlots W W' X lo hi → SameWords W W' at (at + n) → wd W' (at + n) ≡ b → BackArray W' X at (n + 1) lo hi (node k cs d)
  array-put v t low high slots words here =
      let le = tree-below t in
      let bl = t.low in
      let v' = back-array-keep W W' {lo = lo} {hi = l} (λ s o x y z u. slots s o x (omega arith) z u) words v in
      let ll = back-le v.rep in
      let t' = tree-keep W W' (λ s o x y z u n. slots s o (omega arith) (omega arith) z u) t in
      record {
        ds = b ∷ v'.ds;
        seg = (rw (← v'.count) here, v'.seg);
        count = omega (arith, v'.count);
        rep = put (back-raise low v'.rep) t' high;
      }

-- ---- `is_inner`

pub when_true : {A : Type 0} (b : Bool) (x y : A) → b ≡ true → elim b [ true ↦ x | false ↦ y ] ≡ x
when_true b x y e = rw e

pub when_false : {A : Type 0} (b : Bool) (x y : A) → b ≡ false → elim b [ true ↦ x | false ↦ y ] ≡ y
when_false b x y e = rw e

pub inner-leaf : (W : List ℕ) (b c : ℕ) → is_leaf_at W b ≡ true → false ≡ inner_at W b c
inner-leaf W b c e = unfold inner_at in sym (when_true (is_leaf_at W b) false (shares (classes_at W b) c) e)

pub inner-node : (W : List ℕ) (b c : ℕ) → is_leaf_at W b ≡ false → shares (classes_at W b) c ≡ inner_at W b c
inner-node W b c e = unfold inner_at in sym (when_false (is_leaf_at W b) false (shares (classes_at W b) c) e)

-- whether leaves of the pass are below it
pub inner-tree : {W X : List ℕ} {b a m : ℕ} {k : Token} (cs : Forest) (c : ℕ) (P : ℕ → Bool) → Covers c P → RepT W X b a m k cs
    → inner_at W b c ≡ elim (is_nil cs) [ true ↦ false | false ↦ not (free P cs) ]
unfolding is_nil
inner-tree {W} {b = b} nil c P e t = sym (inner-leaf W b c (leaf-test nil t))
inner-tree {W} {b = b} {k = k} (node d ds r) c P e t =
    sym (inner-node W b c (leaf-test (node d ds r) t)) ∙ tree_shares t c P e ∙ ap not (free_one P k d ds r)

-- ---- `next_if`

module _ (W : List ℕ) (l : Items) (op : ℕ) where
  pub next-if-end : l.read ≡ l.len → None ≡ next_if W l op
  next-if-end e = unfold next_if in rw (eq-eqb l.read l.len e) refl

  pub next-if-found : l.read ≢ l.len → op_at W (wd W (l.base + l.read)) ≡ op → Some (wd W (l.base + l.read)) ≡ next_if W l op
  unfolding next_if
  next-if-found e h = rw (ne_eqb l.read l.len e, eq-eqb (op_at W (wd W (l.base + l.read))) op h) refl

  pub next-if-other : l.read ≢ l.len → op_at W (wd W (l.base + l.read)) ≢ op → None ≡ next_if W l op
  unfolding next_if
  next-if-other e h = rw (ne_eqb l.read l.len e, ne_eqb (op_at W (wd W (l.base + l.read))) op h) refl

-- What `next_if` answers of the unread trees: nothing is left, the next one has another operator, or it is the item.
pub data NextTo (W X : List ℕ) (l : Items) (lo hi op : ℕ) : Option ℕ → Forest → Type 0 where
  ended : l.read ≡ l.len → NextTo W X l lo hi op None nil
  differs : {k : Token} {cs rest : Forest} → l.read < l.len → k.op ≢ op → NextTo W X l lo hi op None (node k cs rest)
  found : {b a m : ℕ} {k : Token} {cs rest : Forest} → l.read < l.len → k.op ≡ op → 0 < b → lo ≤ a → RepT W X b a m k cs
      → Ahead W X l.base (l.read + 1) l.len m hi rest → NextTo W X l lo hi op (Some b) (node k cs rest)

pub next-to : {W X : List ℕ} {lo hi : ℕ} {f : Forest} (l : Items) (op : ℕ) → Ahead W X l.base l.read l.len lo hi f
    → NextTo W X l lo hi op (next_if W l op) f
next-to {W} {X} {lo} {hi} {f} l op v =
    elim (ℕ_discrete l.read l.len) [
      | yes e ↦
          subst₂ (λ (x : Option ℕ) (g : Forest). NextTo W X l lo hi op x g) (next-if-end W l op e) (sym (ahead-end f (omega arith) v)) (ended e)
      | no n ↦ go n (ahead-item (wd W (l.base + l.read)) refl (omega (arith, (ahead-le v).1)) v)
    ]
  where
    go : {g : Forest} → l.read ≢ l.len → AheadTo W X l.base l.read l.len lo hi (wd W (l.base + l.read)) g
        → NextTo W X l lo hi op (next_if W l op) g
    go n (item {k = k} {cs = cs} {rest = rest} low t r) =
        elim (ℕ_discrete k.op op) [
          | yes e ↦
              subst (λ (x : Option ℕ). NextTo W X l lo hi op x (node k cs rest)) (next-if-found W l op n (tree-op t ∙ e))
              (found (omega (arith, (ahead-le v).1)) e t.pos low t r)
          | no h ↦
              subst (λ (x : Option ℕ). NextTo W X l lo hi op x (node k cs rest)) (next-if-other W l op n (λ e. h (sym (tree-op t) ∙ e)))
              (differs (omega (arith, (ahead-le v).1)) h)
        ]

-- what `next_if` asks holds of a list with unread trees below the stack
pub can-peek : {W X : List ℕ} {lo hi : ℕ} {f : Forest} (l : Items) → Ahead W X l.base l.read l.len lo hi f → slot_start hi ≤ l.base
    → l.base + l.len ≤ length W
    → CanPeek W l
can-peek {W} {X} {lo} {hi} {f} l v below within =
    record { behind = (ahead-le v).1; within = within; slot = λ h. go h (ahead-item (wd W (l.base + l.read)) refl h v) }
  where
    go : {g : Forest} → l.read < l.len → AheadTo W X l.base l.read l.len lo hi (wd W (l.base + l.read)) g
        → slot_end (wd W (l.base + l.read)) ≤ length W
    go h (item low t r) = omega (arith, tree-below t, (ahead-le r).0)
