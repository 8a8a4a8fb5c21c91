-- The loop of `next_token`: what holds at its test, a turn that passes over an item, and where it stops.
use Prim.Native.Nat.{ℕ, ◌+◌, ◌^◌, ◌≤◌, ◌<◌}
use mathlib.Core.{Path.{◌≡◌, refl, sym, ap, ◌∙◌, subst}, Logic.{◌⊎◌, ⊎_elim}, Bool.{Bool, true, false, true≢false}, List.{List, []}}
use native.Mathlib.{Omega.{arith}, Nat.{le_refl}}
use lib.ListN.{length, set}
use Rattle.molang.specs.{Forest.{Token, Forest, nil, node}, Free.{free, is_nil}}
use Rattle.ops.specs.Classes.{shares, meets}
use Rattle.nodes.specs.{Store.{wd, slot_words, slot_start, slot_end, classes_at, ends, RepT}, Slots.{is_leaf_at}}
use Rattle.nodes.specs.declared.frames.List.{List as Items}
use Rattle.nodes.proofs.{Runs.{set_same, set_other, set_long}, Store.{tree-below, back-raise}, Trees.{leaf-test}}
use Rattle.levels.specs.Passes.{moved_to, Covers}
use Rattle.levels.specs.Items.{BackArray, Ahead, CanSeek, Passed, here, over, Seen, SoughtTo, none, leaf, tree, Sought}
use Rattle.levels.specs.declared.items.Found.TheVariants.{Nothing, Children, Token as Leaf}
use Rattle.levels.proofs.Reading.{AheadTo, item, ahead-item, ahead-end, ahead-le, ahead-keep, array-put, tree_free, tree-unfree}
use Rattle.levels.proofs.Reading.{unfree-leaf, unfree-tree}

-- one more item is passed over
pub passed-more : {P : ℕ → Bool} {d rest d' rest' cs : Forest} {k : Token} → Passed P d rest d' (node k cs rest')
    → free P (node k cs nil) ≡ true
    → Passed P d rest (node k cs d') rest'
passed-more here e = over e here
passed-more (over h p) e = over h (passed-more p e)

-- what holds at the loop's test, whatever forest stands there
pub record SeekAt (W : List ℕ) (l : Items) (g : CanSeek W l) (P : ℕ → Bool) (Z : List ℕ) (read write : ℕ) : Type 0 where
  pub d : Forest
  pub rest : Forest
  pub m : ℕ
  pub n : ℕ
  pub passed : Passed P g.d g.rest d rest
  pub done : BackArray Z g.X g.at n g.lo m d
  pub reached : g.at + n ≡ l.base + write
  pub ahead : Ahead Z g.X l.base read l.len m g.hi rest
  pub behind : write ≤ read

pub record Seeking (W : List ℕ) (l : Items) (c : ℕ) (Z : List ℕ) (read write : ℕ) : Type 0 where
  pub at : (g : CanSeek W l) (P : ℕ → Bool) → Covers c P → SeekAt W l g P Z read write
  pub from : l.write ≤ write
  pub to : write ≤ read
  pub within : read ≤ l.len
  pub same : (j : ℕ) → (j < l.base + l.write) ⊎ (l.base + l.len ≤ j) → wd Z j ≡ wd W j
  pub long : length Z ≡ length W

pub seek-start : {W : List ℕ} (l : Items) (c : ℕ) → CanSeek W l → Seeking W l c W l.read l.write
seek-start l c h =
    record {
      at = λ g P e. record {
        d = g.d;
        rest = g.rest;
        m = g.m;
        n = g.n;
        passed = here;
        done = g.done;
        reached = g.reached;
        ahead = g.ahead;
        behind = g.behind;
      };
      from = le_refl l.write;
      to = h.behind;
      within = (ahead-le h.ahead).1;
      same = λ j o. refl;
      long = refl;
    }

-- ---- the item that a turn reads

module _ {W : List ℕ} {l : Items} {g : CanSeek W l} {P : ℕ → Bool} {Z : List ℕ} {read write : ℕ} (v : SeekAt W l g P Z read write)
    (h : read < l.len) where
  -- its slot is below the stack
  seek-slot : slot_end (wd Z (l.base + read)) ≤ l.base
  seek-slot = go (ahead-item (wd Z (l.base + read)) refl h v.ahead)
    where
      go : {f : Forest} → AheadTo Z g.X l.base read l.len v.m g.hi (wd Z (l.base + read)) f
          → slot_end (wd Z (l.base + read)) ≤ l.base
      go (item low t r) = omega (arith, tree-below t, (ahead-le r).0, g.below)

  -- it is passed over
  seek-more : (c : ℕ) → Covers c P → (Z' : List ℕ) → shares (classes_at Z (wd Z (l.base + read))) c ≡ false
      → Z' ≡ set Z (l.base + write) (wd Z (l.base + read)) → l.base + write < length Z → SeekAt W l g P Z' (read + 1) (write + 1)
  seek-more c e Z' f ez room = go v.passed (ahead-item (wd Z (l.base + read)) refl h v.ahead)
    where
      go : {rest : Forest} → Passed P g.d g.rest v.d rest
          → AheadTo Z g.X l.base read l.len v.m g.hi (wd Z (l.base + read)) rest
          → SeekAt W l g P Z' (read + 1) (write + 1)
      go p (item {a = a} {m = m} {k = k} {cs = cs} {rest = rest} low t r) =
          let other = set_other Z Z' (l.base + write) (wd Z (l.base + read)) ez in
          let below = g.below in
          let behind = v.behind in
          let reached = v.reached in
          let le = ahead-le r in
          let slots : (s o : ℕ) → s < g.hi → o < slot_words → wd Z' (slot_start s + o) ≡ wd Z (slot_start s + o) =
          λ s o y z. other (slot_start s + o) (omega arith) in
          record {
            d = node k cs v.d;
            rest = rest;
            m = m;
            n = v.n + 1;
            passed = passed-more p (tree_free c P e t f);
            done = array-put Z Z' v.done t low (le_refl m) (λ s o x y z u. slots s o (omega arith) z) (λ j x y. other j (omega arith))
                (rw reached (set_same Z Z' (l.base + write) (wd Z (l.base + read)) ez room));
            reached = omega arith;
            ahead = ahead-keep Z Z' (λ s o x y z u. slots s o y z) (λ j x y. other j (omega arith)) r;
            behind = omega arith;
          }

  seen : {a m : ℕ} {rest : Forest} → v.m ≤ a → Ahead Z g.X l.base (read + 1) l.len m g.hi rest
      → Seen Z g.X (moved_to l (read + 1) write) g.at g.lo a m g.hi v.d rest
  seen low r =
      record {
        n = v.n;
        done = record { ds = v.done.ds; seg = v.done.seg; count = v.done.count; rep = back-raise low v.done.rep };
        reached = v.reached;
        ahead = r;
      }

  -- it is a token of the pass
  seek-leaf : (c : ℕ) → Covers c P → shares (classes_at Z (wd Z (l.base + read))) c ≡ true → is_leaf_at Z (wd Z (l.base + read)) ≡ true
      → SoughtTo Z g.X l g.at g.lo g.hi P g.d g.rest (Leaf (moved_to l (read + 1) write) (wd Z (l.base + read)))
  unfolding is_nil
  seek-leaf c e f leafy = go v.passed (ahead-item (wd Z (l.base + read)) refl h v.ahead)
    where
      at : {a m : ℕ} {k : Token} (cs : Forest) {rest : Forest} → is_nil cs ≡ true → Passed P g.d g.rest v.d (node k cs rest)
          → v.m ≤ a
          → RepT Z g.X (wd Z (l.base + read)) a m k cs → Ahead Z g.X l.base (read + 1) l.len m g.hi rest
          → SoughtTo Z g.X l g.at g.lo g.hi P g.d g.rest (Leaf (moved_to l (read + 1) write) (wd Z (l.base + read)))
      at nil n p low t r =
          let behind = v.behind in
          leaf {l' = moved_to l (read + 1) write} refl (omega arith) p (unfree-leaf P _ (tree-unfree c P e t f)) t (seen low r)
      at (node x xs y) n p low t r = absurd (true≢false (sym n))

      go : {rest : Forest} → Passed P g.d g.rest v.d rest
          → AheadTo Z g.X l.base read l.len v.m g.hi (wd Z (l.base + read)) rest
          → SoughtTo Z g.X l g.at g.lo g.hi P g.d g.rest (Leaf (moved_to l (read + 1) write) (wd Z (l.base + read)))
      go p (item {cs = cs} low t r) = at cs (sym (leaf-test cs t) ∙ leafy) p low t r

  -- a token of the pass is below it
  seek-tree : (c : ℕ) → Covers c P → shares (classes_at Z (wd Z (l.base + read))) c ≡ true → is_leaf_at Z (wd Z (l.base + read)) ≡ false
      → SoughtTo Z g.X l g.at g.lo g.hi P g.d g.rest (Children (moved_to l (read + 1) write) (wd Z (l.base + read)))
  seek-tree c e f leafy = go v.passed (ahead-item (wd Z (l.base + read)) refl h v.ahead)
    where
      go : {rest : Forest} → Passed P g.d g.rest v.d rest
          → AheadTo Z g.X l.base read l.len v.m g.hi (wd Z (l.base + read)) rest
          → SoughtTo Z g.X l g.at g.lo g.hi P g.d g.rest (Children (moved_to l (read + 1) write) (wd Z (l.base + read)))
      go p (item {k = k} {cs = cs} low t r) =
          let full = sym (leaf-test cs t) ∙ leafy in
          let behind = v.behind in
          tree {l' = moved_to l (read + 1) write} refl (omega arith) p full (unfree-tree P k cs full (tree-unfree c P e t f)) t (seen low r)

-- nothing is left to read
seek-none : {W : List ℕ} {l : Items} {g : CanSeek W l} {P : ℕ → Bool} {Z : List ℕ} {read write : ℕ} → SeekAt W l g P Z read write
    → l.len ≤ read
    → SoughtTo Z g.X l g.at g.lo g.hi P g.d g.rest (Nothing (moved_to l read write))
seek-none {W} {l} {g} {P} {Z} {read} {write} v h =
    let over = ahead-end v.rest h v.ahead in
    let le = ahead-le v.ahead in
    none refl v.behind (subst (λ (f : Forest). Passed P g.d g.rest v.d f) over v.passed)
    (record {
      n = v.n;
      done = record { ds = v.done.ds; seg = v.done.seg; count = v.done.count; rep = back-raise le.0 v.done.rep };
      reached = v.reached;
      ahead =
          record {
            n = 0;
            count = omega (arith, le.1);
            array = record { bs = []; seg = tt; count = refl; rep = ends (le_refl g.hi) };
          };
    })

-- ---- the loop

module _ {W : List ℕ} {l : Items} {c : ℕ} {Z : List ℕ} {read write : ℕ} (v : Seeking W l c Z read write) where
  pub seek-in : CanSeek W l → read < l.len
      → (l.base + read < length Z) × (slot_end (wd Z (l.base + read)) ≤ length Z) × (l.base + read < 2 ^ 32)
  seek-in g h =
      let a = seek-slot (v.at g (meets c) (λ n. refl)) h in
      let long = v.long in
      let within = g.within in
      let small = g.small in
      (omega arith, omega arith, omega arith)

  pub seek-turn : (Z' : List ℕ) → read < l.len → shares (classes_at Z (wd Z (l.base + read))) c ≡ false
      → Z' ≡ set Z (l.base + write) (wd Z (l.base + read)) → l.base + write < length Z → Seeking W l c Z' (read + 1) (write + 1)
  seek-turn Z' h f ez room =
      let from = v.from in
      let to = v.to in
      record {
        at = λ g P e. seek-more (v.at g P e) h c e Z' f ez room;
        from = omega arith;
        to = omega arith;
        within = omega arith;
        same =
            λ j o.
            set_other Z Z' (l.base + write) (wd Z (l.base + read)) ez j (⊎_elim (λ x. omega arith) (λ x. omega arith) o)
            ∙ v.same j o;
        long = set_long Z Z' (l.base + write) (wd Z (l.base + read)) ez ∙ v.long;
      }

  pub sought-leaf : read < l.len → shares (classes_at Z (wd Z (l.base + read))) c ≡ true → is_leaf_at Z (wd Z (l.base + read)) ≡ true
      → (l' : Items) → l' ≡ moved_to l (read + 1) write → Sought W l c (Leaf l' (wd Z (l.base + read))) Z
  sought-leaf h f leafy l' el =
      rw el (record { to = λ g P e. seek-leaf (v.at g P e) h c e f leafy; same = v.same; long = v.long })

  pub sought-tree : read < l.len → shares (classes_at Z (wd Z (l.base + read))) c ≡ true → is_leaf_at Z (wd Z (l.base + read)) ≡ false
      → (l' : Items) → l' ≡ moved_to l (read + 1) write → Sought W l c (Children l' (wd Z (l.base + read))) Z
  sought-tree h f leafy l' el =
      rw el (record { to = λ g P e. seek-tree (v.at g P e) h c e f leafy; same = v.same; long = v.long })

  pub sought-end : l.len ≤ read → (l' : Items) → l' ≡ moved_to l l.len write → Sought W l c (Nothing l') Z
  sought-end h l' el =
      let last : l.len ≡ read = omega (arith, v.within) in
      rw (el ∙ ap (λ (n : ℕ). moved_to l n write) last) (record { to = λ g P e. seek-none (v.at g P e) h; same = v.same; long = v.long })
