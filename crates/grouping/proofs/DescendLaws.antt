-- A list waits in a frame while the children of its item are opened (`descend`).
use Prim.Native.Nat.{ℕ, ◌+◌, ◌<◌}
use mathlib.Core.{Path.{◌≡◌, refl, sym, ap, ◌∙◌, subst, subst₂}, Logic.{inl}, Bool.{false, true≢false}, List.{List, ◌∷◌}}
use native.Mathlib.Omega.{arith}
use lib.ListN.{length}
use Rattle.molang.specs.{Forest.{Token, Forest, nil, node}, Message.{ok}, Free.{is_nil}, Work.{Kind, State, work, in_reading, held}}
use Rattle.molang.proofs.{Trees.{count-size}, Work.{reading-size, reading-count}}
use Rattle.nodes.specs.{Store.{wd, slot_words, slot_start, RepT, Owned}, Frames.{CanPush, Pushed}, declared.frames.List.{List as Items}}
use Rattle.nodes.specs.declared.frames.Held.{Held as Words}
use Rattle.nodes.proofs.{Store.{tree-below, tree-out, tree-keep}, Tokens.{token-keep}, Trees.{tree-owned}}
use Rattle.levels.specs.Passes.{walk_of, classes_of, held_of, Runs, call, math_call, unsplit_pass, split, array, unary, level, conditional_pass}
use Rattle.levels.{specs.Passes.{return_pass}, specs.Sides.{ArraySide, DoneSide, InFrame, Holds, Waits}}
use Rattle.levels.{specs.Turns.{lent_of, Begins, afresh, lent}, specs.declared.turns.Pass.{Pass}}
use Rattle.levels.specs.declared.turns.Pass.TheVariants.{Calls, MathCalls, Unsplit, Split, Arrays, Unary, Binary, Conditional, Returns}
use Rattle.levels.{specs.declared.turns.Walk.{Walk}, proofs.States.{sides-of}}
use Rattle.grouping.specs.Driver.{FrameOf, Stack, over, Going, Beyond, CanOpen, Opened, CanDescend, Descended}
use Rattle.grouping.proofs.SideLaws.{open-array-keep}
use Rattle.grouping.proofs.StackLaws.{waits-keep, waits-within, stack-bounds, stack-within, stack-keep, top-beyond}
use Rattle.grouping.proofs.{StartLaws.{begins-low}, Lasting.{begun-full, lent-full}}

-- ---- the state in a frame

-- what a frame keeps: the name is lent no more
abbrev pub rested : Pass → Pass
rested Calls = Calls
rested MathCalls = MathCalls
rested Unsplit = Unsplit
rested (Split done) = Split done
rested (Arrays a b) = Arrays a 0
rested Unary = Unary
rested (Binary classes pending) = Binary classes pending
rested (Conditional tokens) = Conditional tokens
rested Returns = Returns

rested-held : (p : Pass) → held_of (rested p) ≡ held_of p
rested-held Calls = refl
rested-held MathCalls = refl
rested-held Unsplit = refl
rested-held (Split done) = refl
rested-held (Arrays a b) = refl
rested-held Unary = refl
rested-held (Binary classes pending) = refl
rested-held (Conditional tokens) = refl
rested-held Returns = refl

rested-classes : (p : Pass) → classes_of (rested p) ≡ classes_of p
rested-classes Calls = refl
rested-classes MathCalls = refl
rested-classes Unsplit = refl
rested-classes (Split done) = refl
rested-classes (Arrays a b) = refl
rested-classes Unary = refl
rested-classes (Binary classes pending) = refl
rested-classes (Conditional tokens) = refl
rested-classes Returns = refl

rested-unlent : (p : Pass) → lent_of (rested p) ≡ 0
rested-unlent Calls = refl
rested-unlent MathCalls = refl
rested-unlent Unsplit = refl
rested-unlent (Split done) = refl
rested-unlent (Arrays a b) = refl
rested-unlent Unary = refl
rested-unlent (Binary classes pending) = refl
rested-unlent (Conditional tokens) = refl
rested-unlent Returns = refl

array-rested : {W X : List ℕ} {base write lo l a b : ℕ} {s : _} → ArraySide W X base write lo l (Arrays a b) s
    → ArraySide W X base write lo l (Arrays a 0) s
array-rested (ArraySide.all v) = ArraySide.all v
array-rested (ArraySide.growing v o) = ArraySide.growing v o

module _ (W X : List ℕ) (lo l m hi : ℕ) (v : Items) where
  rested-done : (κ : Kind) (p : Pass) (t : State κ) → Runs κ p → DoneSide κ W X lo l m hi (walk_of v p) t → InFrame v p
      → Runs κ (rested p) × DoneSide κ W X lo l m hi (walk_of v (rested p)) t × InFrame v (rested p)
  rested-done κ p t call d f = (call, d, f)
  rested-done κ p t math_call d f = (math_call, d, f)
  rested-done κ p t unsplit_pass d f = (unsplit_pass, d, f)
  rested-done κ p t split d f = (split, d, f)
  rested-done κ p t array d f = (array, array-rested d, f)
  rested-done κ p t unary d f = (unary, d, f)
  rested-done κ p t (level h) d f = (level h, d, f)
  rested-done κ p t conditional_pass d f = (conditional_pass, d, f)
  rested-done κ p t return_pass d f = (return_pass, d, f)

waits-rested : {κ : Kind} {W X : List ℕ} {lo l m hi : ℕ} {w : Walk} {t : State κ} {rest : Forest} → Waits κ W X lo l m hi w t rest
    → Waits κ W X lo l m hi (walk_of w.list (rested w.pass)) t rest
waits-rested {κ} {W} {X} {lo} {l} {m} {hi} {w} {t} v =
    let s = v.sides in
    let d = rested-done W X lo l m hi w.list κ w.pass t s.runs s.done v.framed in
    record {
      sides = sides-of d.0 d.1 s.unread s.agrees s.low s.mid s.high s.below s.within;
      framed = d.2;
    }

-- ---- how the children begin

begins-keep : (W W' : List ℕ) {X : List ℕ} {lo n : ℕ} {cs : Forest} {κ : Kind} {p : Pass} {u : State κ}
    → ((s o : ℕ) → s < n → o < slot_words → wd W' (slot_start s + o) ≡ wd W (slot_start s + o)) → Begins W X lo n cs κ p u
    → Begins W' X lo n cs κ p u
begins-keep W W' h (afresh e low) = afresh e low
begins-keep W W' h (lent o i) = lent (open-array-keep W W' (λ s j x y z r. h s j y z) o) i

begun : {W X : List ℕ} {lo n : ℕ} (cs : Forest) {κ : Kind} {p : Pass} {u : State κ} → Begins W X lo n cs κ p u → is_nil cs ≡ false
    → (f : Forest) → work κ u (in_reading κ cs) ≡ ok f → is_nil f ≡ false
begun cs {κ} (afresh e low) h f r = begun-full κ cs f h r
begun cs (lent {q = q} o i) h f r = lent-full q cs f o.is_array i r

tree-owner : {W X : List ℕ} {q lo hi : ℕ} {o : Token} (cs : Forest) → is_nil cs ≡ false → RepT W X q lo hi o cs → Owned W X q lo hi cs
unfolding is_nil
tree-owner nil e t = absurd (true≢false e)
tree-owner (node c cs r) e t = tree-owned t

-- ---- `descend`

module _ {W : List ℕ} {w : Walk} {item : ℕ} (g : CanDescend W w item) where
  pub descend-can-push : CanPush W w.list
  descend-can-push =
      let e = waits-within g.waiting in
      let inner = g.inner in
      record { room = omega arith; small = g.small; read = omega arith; write = omega arith }

  module _ (W1 : List ℕ) (h : Words) (eh : h ≡ held_of w.pass) {after : ℕ} (pushed : Pushed W w.list h after W1) where
    slots-pushed : (s o : ℕ) → s < g.hi → o < slot_words → wd W1 (slot_start s + o) ≡ wd W (slot_start s + o)
    slots-pushed s o x y = pushed.same (slot_start s + o) (inl (omega (arith, g.waiting.sides.below)))

    pub descend-can-open : CanOpen W1 item (w.list.base + w.list.len + 6) w.pass
    descend-can-open =
        let below = g.waiting.sides.below in
        let high = g.waiting.sides.high in
        let long = pushed.long in
        let inner = g.inner in
        let own = tree-below g.tree in
        record {
          κ = g.κ;
          X = w.list.owner ∷ g.X;
          lo = g.l;
          n = g.n;
          hi = g.m;
          cs = g.cs;
          u = g.u;
          runs = g.waiting.sides.runs;
          owned = tree-owner g.cs g.some (tree-keep W W1 (λ s o x y z p q. slots-pushed s o (omega arith) z) g.tree);
          begins = begins-keep W W1 (λ s o x y. slots-pushed s o (omega (arith, g.tree.low)) y) g.begins;
          own = own;
          below = omega arith;
          room = omega (arith, count-size g.cs);
          small = omega (arith, g.small);
        }

    module _ (w' : Walk) (W2 : List ℕ) (opened : Opened W1 item (w.list.base + w.list.len + 6) w.pass w' W2) where
      long-opened : length W2 ≡ length W
      long-opened = opened.long ∙ pushed.long

      -- below the frame nothing has changed
      same-below : (j : ℕ) → j < w.list.base + w.list.len → wd W2 j ≡ wd W j
      same-below j h = opened.same j (inl (omega arith)) ∙ pushed.same j (inl h)

      frame-word : (i : ℕ) → i < 6 → wd W2 (w.list.base + w.list.len + i) ≡ wd W1 (w.list.base + w.list.len + i)
      frame-word i h = opened.same (w.list.base + w.list.len + i) (inl (omega arith))

      some-slot : 0 < g.hi0
      some-slot = omega (arith, stack-within g.stack, g.waiting.sides.high, tree-below g.tree)

      descend-frame : FrameOf g.κ g.classes W2 (w.list.owner ∷ g.X) g.lo g.l g.m g.hi
          (walk_of w.list (rested w.pass)) item g.t g.k g.rest
      descend-frame =
          let below = g.waiting.sides.below in
          let high = g.waiting.sides.high in
          let mid = g.waiting.sides.mid in
          let f = pushed.frame in
          let kept : h ≡ held_of (rested w.pass) = eh ∙ sym (rested-held w.pass) in
          let top = w.list.base + w.list.len in
          let own = tree-below g.tree in
          record {
            waiting =
                waits-keep W W2 (λ s o x y z r. same-below (slot_start s + o) (omega arith))
                (λ s o x y z r. same-below (slot_start s + o) (omega arith)) (λ j x y. same-below j y) long-opened
                (waits-rested g.waiting);
            unlent = rested-unlent w.pass;
            same = rested-classes w.pass ∙ g.same;
            token = token-keep W W2 item (λ o x. same-below (slot_start item + o) (omega arith)) g.tree.token;
            low = omega (arith, begins-low g.begins, g.tree.low);
            high = own;
            pos = g.tree.pos;
            out = tree-out g.tree;
            words = record {
              above = refl;
              owner-word = opened.same top (inl (omega arith)) ∙ f.owner-word;
              base_word = frame-word 1 (omega arith) ∙ f.base_word;
              read_word = frame-word 2 (omega arith) ∙ f.read_word;
              write_word = frame-word 3 (omega arith) ∙ f.write_word;
              first-word = frame-word 4 (omega arith) ∙ f.first-word ∙ ap (λ (x : Words). x.first) kept;
              second_word = frame-word 5 (omega arith) ∙ f.second_word ∙ ap (λ (x : Words). x.second) kept;
            };
            room = rw long-opened g.room;
          }

      descend-stack : Stack g.κ g.classes W2 g.base0 g.hi0 (w.list.owner ∷ g.X) item g.l g.m
          (w.list.base + w.list.len + 6) (held g.t g.k g.rest ∷ g.S)
      descend-stack =
          let bounds = stack-bounds some-slot g.stack in
          let below = g.waiting.sides.below in
          over {w = walk_of w.list (rested w.pass)}
          (stack-keep W W2 some-slot g.stack (λ j x y. same-below j (omega arith))
          (λ o x. same-below (slot_start w.list.owner + o) (omega (arith, bounds.high))) long-opened)
          descend-frame

      descended-going : Going g.κ g.classes W2 g.base0 g.hi0 w' (held g.t g.k g.rest ∷ g.S) g.u
          (in_reading g.κ g.cs)
      unfolding descend-can-open
      descended-going =
          let owned = opened.owned in
          let based = opened.based in
          let len = opened.count descend-can-open in
          let holds = opened.holds descend-can-open in
          let inner = g.inner in
          let sizes = reading-size g.κ g.cs in
          let counts = reading-count g.κ g.cs in
          record {
            X = w.list.owner ∷ g.X;
            lo = g.l;
            hi = g.m;
            stack =
                subst₂
                (λ (x : ℕ) (y : ℕ). Stack g.κ g.classes W2 g.base0 g.hi0 (w.list.owner ∷ g.X) x g.l g.m y
                (held g.t g.k g.rest ∷ g.S))
                (sym owned) (sym based) descend-stack;
            holds =
                subst (λ (x : ℕ). Holds g.κ W2 (x ∷ w.list.owner ∷ g.X) g.l g.m w' g.u (in_reading g.κ g.cs))
                (sym owned) holds;
            same = opened.classes ∙ g.same;
            room = omega (arith, long-opened);
            full = (begun g.cs g.begins g.some, g.full);
            some = some-slot;
            small = omega (arith, g.small, long-opened);
          }

      descended-beyond : Beyond W W2 g.base0 g.hi0
      descended-beyond =
          let bounds = stack-bounds some-slot g.stack in
          top-beyond g.base0 g.hi0 bounds (λ j x y. same-below j (omega arith)) long-opened

pub descended : {W W1 W2 : List ℕ} {w w' : Walk} {item : ℕ} (h : Words) → h ≡ held_of w.pass → {after : ℕ} → Pushed W w.list h after W1
    → Opened W1 item (w.list.base + w.list.len + 6) w.pass w' W2 → Descended W w item w' W2
descended {W1 = W1} {W2} {w' = w'} h eh pushed opened =
    record { going = λ g. descended-going g W1 h eh pushed w' W2 opened; beyond = λ g. descended-beyond g W1 h eh pushed w' W2 opened }
