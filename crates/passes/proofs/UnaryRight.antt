-- A list of the unary pass in its words: the last unread item, an item put before the done ones, a list that the pass holds at a turn, and
-- the loop of `previous_token`.
use Prim.Native.Nat.{ℕ, ◌+◌, ◌-◌, ◌^◌, ◌≤◌, ◌<◌}
use mathlib.Core.{Path.{◌≡◌, refl, sym, ap, ◌∙◌, subst}, Logic.{◌⊎◌, ⊎_elim}, Bool.{Bool, true, false, true≢false}, List.{List, ◌∷◌}}
use native.Mathlib.{Omega.{arith}, Nat.{le_refl}}
use lib.ListN.{length, set}
use Rattle.molang.specs.{Forest.{Token, Forest, nil, node}, Free.{is_nil, is_prefix}}
use Rattle.molang.specs.Work.{Kind, State, Right, right, unary_minus_and_not}
use Rattle.ops.specs.Classes.{shares}
use Rattle.nodes.{specs.Store.{wd, slot_words, slot_start, slot_end, classes_at, SegB, RepT, RepB, begins, put}, specs.Slots.{is_leaf_at}}
use Rattle.nodes.{specs.declared.frames.List.{List as Items}, proofs.Runs.{set_same, set_other, set_long}}
use Rattle.nodes.{proofs.Store.{tree-more, tree-below, tree-widen, tree-keep, back-le}, proofs.Trees.{leaf-test}}
use Rattle.levels.specs.{Passes.{walk_of, moved_to, Runs, unary}, Items.{BackArray, Ahead}, Sides.{RightSide, all, Sides, Holds}}
use Rattle.levels.specs.{Turns.{CanTurn}, declared.items.Found.TheVariants.{Nothing, Children, Token as Leaf}}
use Rattle.levels.specs.declared.turns.Pass.TheVariants.{Unary}
use Rattle.levels.proofs.{Reading.{back-array-keep, ahead-keep, ahead-le, tree_free, tree-unfree, unfree-leaf}, States.{sides-of}}
use Rattle.passes.specs.Unary.{RightList, CanSeekBack, Moved, SoughtBackTo, none, leaf, tree, SoughtBack}
use Rattle.passes.proofs.UnaryLaws.{moved_none, moved_more, unary-covers}

-- ---- the unread items

-- The last of the n unread items is the tree p over ps, in the slots from a to c; `left` stands before it.
pub data LastUnread (W X : List ℕ) (base n lo l : ℕ) : Forest → Type 0 where
  last : {a c : ℕ} {p : Token} {ps left : Forest} → RepT W X (wd W (base + (n - 1))) a c p ps → c ≤ l → BackArray W X base (n - 1) lo a left
      → LastUnread W X base n lo l (node p ps left)

last_of : {W X ds : List ℕ} {base n lo l : ℕ} {rest : Forest} → RepB W X ds lo l rest → SegB W base ds → n ≡ length ds → 0 < n
    → LastUnread W X base n lo l rest
last_of (begins h) g c z = absurd (omega arith)
last_of {W} {X} {base = base} {n} (put {b = b} {ds = ds} {l = a} {m = m} {t = t} {k = k} r v h) g c z =
    let others : length ds ≡ n - 1 = omega arith in
    let here : b ≡ wd W (base + (n - 1)) = sym (rw others at g.0) in
    last (subst (λ (x : ℕ). RepT W X x a m t k) here v) h (record { ds = ds; seg = g.1; count = sym others; rep = r })

pub unread-last : {W X : List ℕ} {base n lo l : ℕ} {rest : Forest} → BackArray W X base n lo l rest → 0 < n
    → LastUnread W X base n lo l rest
unread-last v z = last_of v.rep v.seg v.count z

none_of : {W X ds : List ℕ} {lo l : ℕ} (rest : Forest) → RepB W X ds lo l rest → length ds ≡ 0 → rest ≡ nil
none_of nil (begins h) e = refl
none_of (node p ps left) (put r v h) e = absurd (omega arith)

pub unread-none : {W X : List ℕ} {base n lo l : ℕ} (rest : Forest) → BackArray W X base n lo l rest → n ≡ 0 → rest ≡ nil
unread-none rest v e = none_of rest v.rep (omega (arith, v.count))

-- ---- the done items

-- one more before them
pub ahead-cons : {W X : List ℕ} {base read len lo a m hi b : ℕ} {k : Token} {cs rest : Forest} → lo ≤ a → RepT W X b a m k cs
    → wd W (base + read) ≡ b
    → Ahead W X base (read + 1) len m hi rest → Ahead W X base read len lo hi (node k cs rest)
ahead-cons {base = base} {read = read} {b = b} low t here r =
    let next : base + (read + 1) ≡ base + read + 1 = omega arith in
    record {
      n = r.n + 1;
      count = omega (arith, r.count);
      array =
          record {
            bs = b ∷ r.array.bs;
            seg = (here, rw next at r.array.seg);
            count = omega (arith, r.array.count);
            rep = tree-more low t r.array.rep;
          };
    }

-- ---- the list at a turn

pub right-sides : {W X : List ℕ} {lo l m hi : ℕ} {v : Items} {d rest : Forest} → RightList W X lo l m hi v d rest
    → Sides unary_minus_and_not W X lo l m hi (walk_of v Unary) (right false d) rest
right-sides r =
    sides-of unary (all r.done.count r.done.array) r.unread tt (back-le r.unread.rep) r.mid (ahead-le r.done).0
    r.below r.within

pub right-holds : {W X : List ℕ} {lo l m hi : ℕ} {v : Items} {d rest : Forest} → RightList W X lo l m hi v d rest → v.read ≤ v.write
    → Holds unary_minus_and_not W X lo hi (walk_of v Unary) (right false d) rest
right-holds {l = l} {m = m} r h = record { l = l; m = m; sides = right-sides r; turning = h }

of-side : {W X : List ℕ} {base write len m hi : ℕ} {s : Right} → RightSide W X base write len m hi s → (Q : Right → Type 0)
    → ((d : Forest) → Ahead W X base write len m hi d → Q (right false d)) → Q s
of-side (all {d = d} {n = n} c v) Q f = f d (record { n = n; count = c; array = v })

-- A list that the pass holds is one of the unary pass.
pub of-unary : {W X : List ℕ} {lo l m hi : ℕ} {v : Items} {rest : Forest} {κ : Kind} → Runs κ Unary → (s : State κ)
    → Sides κ W X lo l m hi (walk_of v Unary) s rest → length W < 2 ^ 32
    → (Q : (κ : Kind) → State κ → Type 0) → ((d : Forest) → RightList W X lo l m hi v d rest → Q unary_minus_and_not (right false d)) → Q κ s
of-unary unary s sides small Q f =
    of-side sides.done (λ t. Q unary_minus_and_not t)
    (λ d a. f d (record {
      unread = sides.unread;
      done = a;
      mid = sides.mid;
      below = sides.below;
      within = sides.within;
      small = small;
    }))

pub seek-back : {W : List ℕ} {v : Items} → CanTurn W (walk_of v Unary) → CanSeekBack W v
seek-back {W} {v} g =
    of-unary g.holds.sides.runs g.s g.holds.sides g.small (λ κ s. CanSeekBack W v)
    (λ d list. record {
      X = g.X;
      lo = g.lo;
      l = g.holds.l;
      m = g.holds.m;
      hi = g.hi;
      d = d;
      rest = g.rest;
      list = list;
      behind = g.holds.turning;
    })

-- ---- the loop of `previous_token`

pub record SeekBackAt (W : List ℕ) (v : Items) (g : CanSeekBack W v) (Z : List ℕ) (read write : ℕ) : Type 0 where
  pub l : ℕ
  pub m : ℕ
  pub d : Forest
  pub rest : Forest
  pub list : RightList Z g.X g.lo l m g.hi (moved_to v read write) d rest
  pub moved : Moved g.d g.rest d rest

pub record SeekingBack (W : List ℕ) (v : Items) (Z : List ℕ) (read write : ℕ) : Type 0 where
  pub at : (g : CanSeekBack W v) → SeekBackAt W v g Z read write
  pub behind : read ≤ write
  pub within : write ≤ v.len
  pub same : (j : ℕ) → (j < v.base) ⊎ (v.base + v.len ≤ j) → wd Z j ≡ wd W j
  pub long : length Z ≡ length W

pub seek-back-start : {W : List ℕ} (v : Items) → CanSeekBack W v → SeekingBack W v W v.read v.write
seek-back-start v h =
    record {
      at = λ g. record { l = g.l; m = g.m; d = g.d; rest = g.rest; list = g.list; moved = moved_none g.d g.rest };
      behind = h.behind;
      within = (ahead-le h.list.done).1;
      same = λ j o. refl;
      long = refl;
    }

module _ {W : List ℕ} {v : Items} {g : CanSeekBack W v} {Z : List ℕ} {read write : ℕ} (s : SeekBackAt W v g Z read write)
    (z : 0 < read) where
  -- the item's slot is below the stack
  seek-back-slot : slot_end (wd Z (v.base + (read - 1))) ≤ v.base
  seek-back-slot = go (unread-last s.list.unread z)
    where
      go : {rest : Forest} → LastUnread Z g.X v.base read g.lo s.l rest → slot_end (wd Z (v.base + (read - 1))) ≤ v.base
      go (last t h r) = omega (arith, tree-below t, s.list.mid, (ahead-le s.list.done).0, s.list.below)

  -- it is passed over
  seek-back-more : (Z' : List ℕ) → read ≤ write → write ≤ v.len → shares (classes_at Z (wd Z (v.base + (read - 1)))) 0x10 ≡ false
      → Z' ≡ set Z (v.base + (write - 1)) (wd Z (v.base + (read - 1))) → SeekBackAt W v g Z' (read - 1) (write - 1)
  seek-back-more Z' behind within f ez = go s.moved (unread-last s.list.unread z)
    where
      go : {rest : Forest} → Moved g.d g.rest s.d rest → LastUnread Z g.X v.base read g.lo s.l rest
          → SeekBackAt W v g Z' (read - 1) (write - 1)
      go m (last {a = a} {c = c} {p = p} {ps = ps} {left = left} t h r) =
          let b = wd Z (v.base + (read - 1)) in
          let other = set_other Z Z' (v.base + (write - 1)) b ez in
          let below = s.list.below in
          let mid = s.list.mid in
          let high = (ahead-le s.list.done).0 in
          let room = s.list.within in
          let ab = t.low in
          let bc = tree-below t in
          let slots : (x o : ℕ) → x < g.hi → o < slot_words → wd Z' (slot_start x + o) ≡ wd Z (slot_start x + o) =
          λ x o y u. other (slot_start x + o) (omega arith) in
          let t' : RepT Z' g.X b a s.m p ps =
          tree-widen (le_refl a) (omega arith) (tree-keep Z Z' (λ x o y u w q n. slots x o (omega arith) w) t) in
          let next : write ≡ write - 1 + 1 = omega arith in
          let r' = back-array-keep Z Z' (λ x o y u w q. slots x o (omega arith) w) (λ j y u. other j (omega arith)) r in
          let d' : Ahead Z' g.X v.base write v.len s.m g.hi s.d
          = ahead-keep Z Z' (λ x o y u w q. slots x o u w) (λ j y u. other j (omega arith)) s.list.done in
          let d'' : Ahead Z' g.X v.base (write - 1 + 1) v.len s.m g.hi s.d
          = subst (λ (i : ℕ). Ahead Z' g.X v.base i v.len s.m g.hi s.d) next d' in
          record {
            l = a;
            m = a;
            d = node p ps s.d;
            rest = left;
            list = record {
              unread = r';
              done = ahead-cons (le_refl a) t' (set_same Z Z' (v.base + (write - 1)) b ez (omega arith)) d'';
              mid = le_refl a;
              below = below;
              within = rw (set_long Z Z' (v.base + (write - 1)) b ez) room;
              small = rw (set_long Z Z' (v.base + (write - 1)) b ez) s.list.small;
            };
            moved = moved_more p ps left m (tree_free 0x10 is_prefix unary-covers t f);
          }

  -- the list without its last unread item
  shorter : {a : ℕ} {left : Forest} → a ≤ s.m → BackArray Z g.X v.base (read - 1) g.lo a left
      → RightList Z g.X g.lo a s.m g.hi (moved_to v (read - 1) write) s.d left
  shorter h r =
      record {
        unread = r;
        done = s.list.done;
        mid = h;
        below = s.list.below;
        within = s.list.within;
        small = s.list.small;
      }

  -- it is a minus or a not
  seek-back-leaf : read ≤ write → shares (classes_at Z (wd Z (v.base + (read - 1)))) 0x10 ≡ true
      → is_leaf_at Z (wd Z (v.base + (read - 1))) ≡ true
      → SoughtBackTo Z g.X g.lo g.hi v g.d g.rest (Leaf (moved_to v (read - 1) write) (wd Z (v.base + (read - 1))))
  unfolding is_nil
  seek-back-leaf behind f leafy = go s.moved (unread-last s.list.unread z)
    where
      at : {a c : ℕ} {p : Token} (ps : Forest) {left : Forest} → is_nil ps ≡ true → Moved g.d g.rest s.d (node p ps left) → c ≤ s.l
          → RepT Z g.X (wd Z (v.base + (read - 1))) a c p ps → BackArray Z g.X v.base (read - 1) g.lo a left
          → SoughtBackTo Z g.X g.lo g.hi v g.d g.rest (Leaf (moved_to v (read - 1) write) (wd Z (v.base + (read - 1))))
      at {a} {c} {p} nil n m h t r =
          let mid = s.list.mid in
          let low = t.low in
          let high = tree-below t in
          let gap : read - 1 < write = omega arith in
          let under : a ≤ s.m = omega arith in
          let wide : RepT Z g.X (wd Z (v.base + (read - 1))) a s.m p nil = tree-widen (le_refl a) (omega arith) t in
          leaf refl gap (shorter under r) (unfree-leaf is_prefix p (tree-unfree 0x10 is_prefix unary-covers t f)) wide m
      at (node x xs y) n m h t r = absurd (true≢false (sym n))

      go : {rest : Forest} → Moved g.d g.rest s.d rest → LastUnread Z g.X v.base read g.lo s.l rest
          → SoughtBackTo Z g.X g.lo g.hi v g.d g.rest (Leaf (moved_to v (read - 1) write) (wd Z (v.base + (read - 1))))
      go m (last {ps = ps} t h r) = at ps (sym (leaf-test ps t) ∙ leafy) m h t r

  -- a minus or a not is below it
  seek-back-tree : read ≤ write → is_leaf_at Z (wd Z (v.base + (read - 1))) ≡ false
      → SoughtBackTo Z g.X g.lo g.hi v g.d g.rest (Children (moved_to v (read - 1) write) (wd Z (v.base + (read - 1))))
  seek-back-tree behind leafy = go s.moved (unread-last s.list.unread z)
    where
      go : {rest : Forest} → Moved g.d g.rest s.d rest → LastUnread Z g.X v.base read g.lo s.l rest
          → SoughtBackTo Z g.X g.lo g.hi v g.d g.rest (Children (moved_to v (read - 1) write) (wd Z (v.base + (read - 1))))
      go m (last {a = a} {p = p} {ps = ps} t h r) =
          let mid = s.list.mid in
          let low = t.low in
          let high = tree-below t in
          let gap : read - 1 < write = omega arith in
          let under : a ≤ s.m = omega arith in
          let wide : RepT Z g.X (wd Z (v.base + (read - 1))) a s.m p ps = tree-widen (le_refl a) (omega arith) t in
          tree refl gap (shorter under r) (sym (leaf-test ps t) ∙ leafy) wide m

-- nothing is unread
seek-back-none : {W : List ℕ} {v : Items} {g : CanSeekBack W v} {Z : List ℕ} {read write : ℕ} → SeekBackAt W v g Z read write → read ≤ write
    → read ≡ 0
    → SoughtBackTo Z g.X g.lo g.hi v g.d g.rest (Nothing (moved_to v read write))
seek-back-none {W} {v} {g} {Z} {read} {write} s behind e =
    let over = unread-none s.rest s.list.unread e in
    none refl behind
    (subst (λ (f : Forest). RightList Z g.X g.lo s.l s.m g.hi (moved_to v read write) s.d f) over s.list)
    (subst (λ (f : Forest). Moved g.d g.rest s.d f) over s.moved)

module _ {W : List ℕ} {v : Items} {Z : List ℕ} {read write : ℕ} (s : SeekingBack W v Z read write) where
  pub seek-back-in : CanSeekBack W v → 0 < read
      → (v.base + (read - 1) < length Z) × (slot_end (wd Z (v.base + (read - 1))) ≤ length Z) × (v.base + write < length Z + 1)
      × (length Z < 2 ^ 32)
  seek-back-in g z =
      let slot = seek-back-slot (s.at g) z in
      let long = s.long in
      let within = g.list.within in
      let small = g.list.small in
      let behind = s.behind in
      let high = s.within in
      (omega arith, omega arith, omega arith, omega arith)

  pub seek-back-turn : (Z' : List ℕ) → 0 < read → shares (classes_at Z (wd Z (v.base + (read - 1)))) 0x10 ≡ false
      → Z' ≡ set Z (v.base + (write - 1)) (wd Z (v.base + (read - 1))) → SeekingBack W v Z' (read - 1) (write - 1)
  seek-back-turn Z' z f ez =
      let behind = s.behind in
      let high = s.within in
      record {
        at = λ g. seek-back-more (s.at g) z Z' behind high f ez;
        behind = omega arith;
        within = omega arith;
        same =
            λ j o.
            set_other Z Z' (v.base + (write - 1)) (wd Z (v.base + (read - 1))) ez j (⊎_elim (λ x. omega arith) (λ x. omega arith) o)
            ∙ s.same j o;
        long = set_long Z Z' (v.base + (write - 1)) (wd Z (v.base + (read - 1))) ez ∙ s.long;
      }

  pub sought-back-leaf : 0 < read → shares (classes_at Z (wd Z (v.base + (read - 1)))) 0x10 ≡ true
      → is_leaf_at Z (wd Z (v.base + (read - 1))) ≡ true
      → (v' : Items) → v' ≡ moved_to v (read - 1) write → SoughtBack W v (Leaf v' (wd Z (v.base + (read - 1)))) Z
  sought-back-leaf z f leafy v' e =
      rw e (record { to = λ g. seek-back-leaf (s.at g) z s.behind f leafy; same = s.same; long = s.long })

  pub sought-back-tree : 0 < read → is_leaf_at Z (wd Z (v.base + (read - 1))) ≡ false
      → (v' : Items) → v' ≡ moved_to v (read - 1) write → SoughtBack W v (Children v' (wd Z (v.base + (read - 1)))) Z
  sought-back-tree z leafy v' e =
      rw e (record { to = λ g. seek-back-tree (s.at g) z s.behind leafy; same = s.same; long = s.long })

  pub sought-back-none : read ≡ 0 → (v' : Items) → v' ≡ moved_to v 0 write → SoughtBack W v (Nothing v') Z
  sought-back-none e v' ev =
      rw (ev ∙ ap (λ (x : ℕ). moved_to v x write) (sym e))
      (record { to = λ g. seek-back-none (s.at g) s.behind e; same = s.same; long = s.long })

-- the test of an item's classes
pub unary-test : {w u : ℕ} {t : Bool} → u ≡ w → t ≡ shares u 0x10 → shares w 0x10 ≡ t
unary-test e h = ap (λ (x : ℕ). shares x 0x10) (sym e) ∙ sym h
