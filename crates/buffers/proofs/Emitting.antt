-- Emission. What is written so far and the words of the trees that are left, those of the current list before those that wait, are the
-- whole; each turn writes one node, and its children and the trees after it are left instead of it (`emit-step`).
use Prim.Native.Nat.{ℕ, ◌+◌, ◌*◌, ◌-◌, ◌^◌, ◌≤◌, ◌<◌}
use mathlib.Core.{Path.{◌≡◌, refl, sym, ap, ◌∙◌, subst}, Logic.{◌≢◌, inl}, List.{List, [], ◌∷◌, ◌++◌, append_assoc, append-nil}}
use native.Mathlib.Omega.{arith}
use lib.ListN.{length, set, length-set, length-append}
use Rattle.molang.{specs.Forest.{Forest, nil, node, count, size}, specs.Words.{node_words_of, tree_words}, proofs.Trees.{count-size}}
use Rattle.words.specs.Tokens.{node_length, node_words}
use Rattle.nodes.specs.Store.{wd, slot_start, slot_end, first_word, next_word, close_word_at, first_at, next_at, TokenAt, Chain, Seg, SegB}
use Rattle.nodes.specs.Stored.{stored_at, token_of_stored}
use Rattle.nodes.proofs.{Runs.{wd-same, wd-other, seg-keep, seg_b-keep}, Tokens.{token-keep}, Store.{rep-count}}
use Rattle.buffers.specs.Emit.{Linked, CanEmitNode, NodeEmitted, Stepped, over, finish, back, down, waits, CanEmit, Emitted}
use Rattle.buffers.proofs.{Runs.{seg-append}, NodeWords.{node-words, node-long}}
use Rattle.buffers.proofs.Linking.{linked-nil, linked-unique, linked-none, linked-open, linked-chain, linked-follow}

-- ---- trees that are left

abbrev pub all_words : List Forest → List ℕ
all_words [] = []
all_words (f ∷ fs) = tree_words f ++ all_words fs

abbrev pub all_size : List Forest → ℕ
all_size [] = 0
all_size (f ∷ fs) = size f + all_size fs

size-nil : size nil ≡ 0
size-nil = unfold size in refl

no_words : (f : Forest) → size f ≡ 0 → tree_words f ≡ []
unfolding size tree_words
no_words nil e = refl
no_words (node k cs rest) e = absurd (omega arith)

none-words : (gs : List Forest) → all_size gs ≡ 0 → all_words gs ≡ []
none-words [] e = refl
none-words (f ∷ gs) e = rw (no_words f (omega arith), none-words gs (omega arith)) refl

-- The lists fs wait at the slots ws; none of them is empty.
pub data Wait (W : List ℕ) (hi : ℕ) : List ℕ → List Forest → Type 0 where
  nobody : Wait W hi [] []
  waiting : {w : ℕ} {ws : List ℕ} {f : Forest} {fs : List Forest} → w ≢ 0 → Linked W w hi f → Wait W hi ws fs → Wait W hi (w ∷ ws) (f ∷ fs)

some_size : {W : List ℕ} {s hi : ℕ} (f : Forest) → Linked W s hi f → s ≢ 0 → 0 < size f
unfolding size
some_size nil v n = absurd (n (linked-nil v))
some_size (node k cs rest) v n = omega arith

wait-few : {W : List ℕ} {hi : ℕ} {ws : List ℕ} {fs : List Forest} → Wait W hi ws fs → length ws ≤ all_size fs
wait-few nobody = omega arith
wait-few (waiting {f = f} n v r) = let few = wait-few r in let some = some_size f v n in omega arith

node-first : (done own A B P : List ℕ) → done ++ ((own ++ (A ++ B)) ++ P) ≡ (done ++ own) ++ (A ++ (B ++ P))
node-first done own A B P = simp append_assoc

module _ (W : List ℕ) (first to stack : ℕ) (p : CanEmit W first to stack) where
  -- So many of the nodes are written, and the lists gs are left.
  pub record Progress (Z : List ℕ) (nodes : ℕ) (gs : List Forest) : Type 0 where
    pub done : List ℕ
    pub written : Seg Z to done
    pub count : length done ≡ node_length * nodes
    pub words : tree_words p.trees ≡ done ++ all_words gs
    pub whole : size p.trees ≡ nodes + all_size gs
    pub same : (j : ℕ) → j < stack → wd Z j ≡ wd W j
    pub long : length Z ≡ length W

  -- At the loop's test: the current list f from the slot s on, and those that wait below `top`.
  pub record EmitAt (Z : List ℕ) (s top nodes : ℕ) : Type 0 where
    pub f : Forest
    pub fs : List Forest
    pub ws : List ℕ
    pub progress : Progress Z nodes (f ∷ fs)
    pub current : Linked W s p.hi f
    pub wait : Wait W p.hi ws fs
    pub held : SegB Z stack ws
    pub at : top ≡ stack + length ws
    pub stops : s ≡ 0 → ws ≡ []

  pub emit-start : EmitAt W first stack 0
  emit-start =
      record {
        f = p.trees;
        fs = [];
        ws = [];
        progress = record {
          done = [];
          written = tt;
          count = refl;
          words = sym (append-nil (tree_words p.trees));
          whole = omega arith;
          same = λ j h. refl;
          long = refl;
        };
        current = p.linked;
        wait = nobody;
        held = tt;
        at = omega arith;
        stops = λ h. refl;
      }

  -- ---- what a turn asks

  slots_same : {Z : List ℕ} {nodes : ℕ} {gs : List Forest} → Progress Z nodes gs → (j : ℕ) → j < slot_start p.hi
      → wd Z j ≡ wd W j
  slots_same v j h = v.same j (omega (arith, p.below))

  slots-within : {Z : List ℕ} {nodes : ℕ} {gs : List Forest} → Progress Z nodes gs → slot_start p.hi ≤ length Z
  slots-within v = omega (arith, p.below, p.spare, p.room, v.long)

  pub record Turn (Z : List ℕ) (s top nodes : ℕ) : Type 0 where
    pub node : CanEmitNode Z s (to + node_length * nodes)
    pub slot : slot_end s ≤ stack
    pub low : stack ≤ top
    pub high : top < to

  pub emit-in : {Z : List ℕ} {s top nodes : ℕ} → EmitAt Z s top nodes → s ≢ 0 → Turn Z s top nodes
  emit-in {Z} {s} {top} {nodes} v n = for v.f v.current v.progress
    where
      for : (f : Forest) → Linked W s p.hi f → Progress Z nodes (f ∷ v.fs) → Turn Z s top nodes
      for nil w g = absurd (omega (arith, some_size nil w n, size-nil))
      for (node k cs rest) w g =
          let o = linked-open w in
          let some = some_size (node k cs rest) w n in
          let few = wait-few v.wait in
          let inside = o.inside in
          let below = p.below in
          let spare = p.spare in
          let room = p.room in
          let whole = g.whole in
          let long = g.long in
          let at = v.at in
          let link : first_at Z s ≡ first_at W s = slots_same g (first_word s) (omega arith) in
          record {
            node = record {
              below = omega arith;
              room = omega arith;
              children = rw link (linked-follow W Z p.hi (slots_same g) (slots-within g) (omega arith) o.children);
            };
            slot = omega arith;
            low = omega arith;
            high = omega arith;
          }

  -- ---- a node's words are written

  -- The children and the trees after the node at slot s come next.
  record Between (Z : List ℕ) (s nodes : ℕ) (fs : List Forest) : Type 0 where
    cs : Forest
    rest : Forest
    children : Linked W (first_at Z s) p.hi cs
    after : Linked W (next_at Z s) p.hi rest
    progress : Progress Z nodes (cs ∷ rest ∷ fs)

  between : {Z Z' : List ℕ} {s nodes : ℕ} {fs : List Forest} (f : Forest) → Linked W s p.hi f → s ≢ 0
      → Progress Z nodes (f ∷ fs)
      → NodeEmitted Z s (to + node_length * nodes) Z' → Between Z' s (nodes + 1) fs
  unfolding size tree_words
  between nil w n g x = absurd (omega (arith, some_size nil w n))
  between {Z} {Z'} {s} {nodes} {fs} (node k cs rest) w n g x =
      let o = linked-open w in
      let inside = o.inside in
      let below = p.below in
      let spare = p.spare in
      let few = p.few in
      let whole = g.whole in
      let kids = o.children in
      let link : first_at Z s ≡ first_at W s = slots_same g (first_word s) (omega arith) in
      let chain : Chain Z (first_at Z s) kids.bs =
      rw link (linked-chain W Z p.hi (slots_same g) (slots-within g) (omega arith) kids) in
      let number : length kids.bs ≡ count cs = rep-count kids.rep in
      let small : count cs < 2 ^ 14 = omega (arith, count-size cs) in
      let token : TokenAt Z s k = token-keep W Z s (λ i h. slots_same g (slot_start s + i) (omega arith)) o.token in
      let end : to + length g.done ≡ to + node_length * nodes = omega (arith, g.count) in
      let own : Seg Z' (to + node_length * nodes) (node_words_of k (count cs))
      =
      subst (λ (l : List ℕ). Seg Z' (to + node_length * nodes) l)
      (ap (λ (n : ℕ). node_words (token_of_stored (stored_at Z (slot_start s))) n (close_word_at Z s)) number
      ∙ node-words Z s k (count cs) token small) (x.words kids.bs chain) in
      let same : (j : ℕ) → j < stack → wd Z' j ≡ wd W j = λ j h. x.same j (inl (omega arith)) ∙ g.same j h in
      let older : Seg Z' to g.done = seg-keep Z Z' to g.done (λ j a b. x.same j (inl (omega (arith, g.count)))) g.written in
      record {
        cs = cs;
        rest = rest;
        children = rw (same (first_word s) (omega arith)) kids;
        after = rw (same (next_word s) (omega arith)) o.after;
        progress = record {
          done = g.done ++ node_words_of k (count cs);
          written = seg-append Z' to g.done (node_words_of k (count cs)) older (rw end own);
          count = omega (arith, g.count, length-append g.done (node_words_of k (count cs)), node-long k (count cs));
          words = g.words ∙ node-first g.done (node_words_of k (count cs)) (tree_words cs) (tree_words rest) (all_words fs);
          whole = omega arith;
          same = same;
          long = x.long ∙ g.long;
        };
      }

  -- ---- and emission goes on

  -- What is left counts by its words and its size alone, so empty lists are left out.
  relist : {Z : List ℕ} {nodes : ℕ} (gs hs : List Forest) → all_words gs ≡ all_words hs → all_size gs ≡ all_size hs
      → Progress Z nodes gs
      → Progress Z nodes hs
  relist gs hs e n v =
      record {
        done = v.done;
        written = v.written;
        count = v.count;
        words = v.words ∙ ap (λ (l : List ℕ). v.done ++ l) e;
        whole = omega (arith, v.whole);
        same = v.same;
        long = v.long;
      }

  skip : {Z : List ℕ} {nodes : ℕ} (f : Forest) (gs : List Forest) → f ≡ nil → Progress Z nodes (f ∷ gs) → Progress Z nodes gs
  skip f gs e = unfold tree_words size in relist (f ∷ gs) gs (rw e refl) (rw e (omega arith))

  skip-second : {Z : List ℕ} {nodes : ℕ} (g f : Forest) (gs : List Forest) → f ≡ nil → Progress Z nodes (g ∷ f ∷ gs)
      → Progress Z nodes (g ∷ gs)
  skip-second g f gs e = unfold tree_words size in relist (g ∷ f ∷ gs) (g ∷ gs) (rw e refl) (rw e (omega arith))

  -- One more sibling waits.
  push : {Z : List ℕ} {nodes : ℕ} {gs : List Forest} (top x : ℕ) → stack ≤ top → top < to → Progress Z nodes gs
      → Progress (set Z top x) nodes gs
  push {Z} top x low high v =
      record {
        done = v.done;
        written = seg-keep Z (set Z top x) to v.done (λ j a b. wd-other Z top x j (omega arith)) v.written;
        count = v.count;
        words = v.words;
        whole = v.whole;
        same = λ j h. wd-other Z top x j (omega arith) ∙ v.same j h;
        long = length-set Z top x ∙ v.long;
      }

  length_none : (ws : List ℕ) → length ws ≡ 0 → ws ≡ []
  length_none [] e = refl
  length_none (w ∷ ws) e = absurd (omega arith)

  -- The last one that waits.
  pop : (Z : List ℕ) {next top nodes : ℕ} {ws : List ℕ} {fs : List Forest} → Wait W p.hi ws fs → SegB Z stack ws
      → top ≡ stack + length ws → top ≢ stack
      → next ≡ wd Z (top - 1) → Progress Z nodes fs → EmitAt Z next (top - 1) nodes
  pop Z nobody h e n g v = absurd (omega arith)
  pop Z {next} {top} (waiting {w = w} {ws = ws} {f = f} {fs = fs} some linked r) h e n g v =
      let at : top - 1 ≡ stack + length ws = omega arith in
      let same : next ≡ w = g ∙ ap (λ (j : ℕ). wd Z j) at ∙ h.0 in
      record {
        f = f;
        fs = fs;
        ws = ws;
        progress = v;
        current = rw same linked;
        wait = r;
        held = h.1;
        at = at;
        stops = λ z. absurd (some (sym same ∙ z));
      }

  moved : {Z : List ℕ} {s top nodes next top' : ℕ} {Z' : List ℕ} {ws : List ℕ} {fs : List Forest} → top < to
      → Between Z s nodes fs → Wait W p.hi ws fs
      → SegB Z stack ws → top ≡ stack + length ws → Stepped Z (first_at Z s) (next_at Z s) stack top next top' Z'
      → EmitAt Z' next top' nodes
  moved {ws = ws} {fs = fs} high v wait held at (over e leaf some) =
      record {
        f = v.rest;
        fs = fs;
        ws = ws;
        progress = skip v.cs (v.rest ∷ fs) (linked-none v.children leaf) v.progress;
        current = rw e v.after;
        wait = wait;
        held = held;
        at = at;
        stops = λ z. absurd (some z);
      }
  moved {ws = ws} {fs = fs} high v wait held at (finish e leaf last low) =
      record {
        f = v.rest;
        fs = fs;
        ws = ws;
        progress = skip v.cs (v.rest ∷ fs) (linked-none v.children leaf) v.progress;
        current = rw e v.after;
        wait = wait;
        held = held;
        at = at;
        stops = λ z. length_none ws (omega arith);
      }
  moved {Z} {fs = fs} high v wait held at (back e leaf last some) =
      pop Z wait held at some e
      (skip v.rest fs (linked-none v.after last) (skip v.cs (v.rest ∷ fs) (linked-none v.children leaf) v.progress))
  moved {ws = ws} {fs = fs} high v wait held at (down e some last) =
      record {
        f = v.cs;
        fs = fs;
        ws = ws;
        progress = skip-second v.cs v.rest fs (linked-none v.after last) v.progress;
        current = rw e v.children;
        wait = wait;
        held = held;
        at = at;
        stops = λ z. absurd (some z);
      }
  moved {Z} {top = top} {ws = ws} {fs = fs} high v wait held at (waits {wait = sibling} e some es more) =
      let room = p.room in
      let long = v.progress.long in
      let put : wd (set Z top sibling) (stack + length ws) ≡ sibling =
      ap (λ (j : ℕ). wd (set Z top sibling) j) (sym at) ∙ wd-same Z top sibling (omega arith) in
      record {
        f = v.cs;
        fs = v.rest ∷ fs;
        ws = sibling ∷ ws;
        progress = push top sibling (omega arith) high v.progress;
        current = rw e v.children;
        wait = waiting {f = v.rest} more (rw es v.after) wait;
        held = (put, seg_b-keep Z (set Z top sibling) stack ws (λ j a b. wd-other Z top sibling j (omega arith)) held);
        at = omega arith;
        stops = λ z. absurd (some z);
      }

  pub emit-step : {Z Z' Z'' : List ℕ} {s top nodes next top' : ℕ} → EmitAt Z s top nodes → s ≢ 0
      → NodeEmitted Z s (to + node_length * nodes) Z'
      → Stepped Z' (first_at Z s) (next_at Z s) stack top next top' Z'' → EmitAt Z'' next top' (nodes + 1)
  emit-step {Z} {Z'} {Z''} {s} {top} {nodes} {next} {top'} v n x y =
      let turn = emit-in v n in
      let high = turn.high in
      let below = turn.node.below in
      let first : first_at Z' s ≡ first_at Z s = x.same (first_word s) (inl (omega arith)) in
      let after : next_at Z' s ≡ next_at Z s = x.same (next_word s) (inl (omega arith)) in
      let stepped : Stepped Z' (first_at Z' s) (next_at Z' s) stack top next top' Z'' = rw (first, after) y in
      let held = seg_b-keep Z Z' stack v.ws (λ j a b. x.same j (inl (omega (arith, v.at)))) v.held in
      moved high (between v.f v.current n v.progress x) v.wait held v.at stepped

  -- ---- the end

  nothing_left : {Z : List ℕ} {nodes : ℕ} {gs : List Forest} → Progress Z nodes gs → all_size gs ≡ 0
      → Emitted W first to stack nodes Z
  nothing_left {Z} {nodes} {gs} v e =
      let all : tree_words p.trees ≡ v.done = v.words ∙ ap (λ (l : List ℕ). v.done ++ l) (none-words gs e) ∙ append-nil v.done in
      let number : nodes ≡ size p.trees = omega (arith, v.whole) in
      record {
        count = λ hi f w. number ∙ ap size (linked-unique p.linked w);
        words = λ hi f w. subst (λ (l : List ℕ). Seg Z to l) (sym all ∙ ap tree_words (linked-unique p.linked w)) v.written;
        same = v.same;
        long = v.long;
      }

  -- No node is left to go to.
  pub emit-done : {Z : List ℕ} {s top nodes : ℕ} → EmitAt Z s top nodes → s ≡ 0 → Emitted W first to stack nodes Z
  emit-done {Z} {s} {top} {nodes} v z = nothing_left v.progress (empty v.f (linked-none v.current z) v.wait (v.stops z))
    where
      empty : (f : Forest) {ws : List ℕ} {fs : List Forest} → f ≡ nil → Wait W p.hi ws fs → ws ≡ [] → all_size (f ∷ fs) ≡ 0
      empty f e nobody w = omega (arith, ap size e, size-nil)
      empty f e (waiting {ws = ws} n l r) w = absurd (omega (arith, ap length w))
