-- The conditional pass before its fold: an item goes to the gathered ones as it is, or is entered; a list without a `?` and a `:` is left
-- as it is. The loop of `step`.
use Prim.Native.Nat.{ℕ, suc, ◌+◌, ◌^◌, ◌≤◌, ◌<◌}
use mathlib.Core.{Path.{◌≡◌, refl, sym, ap, ◌∙◌, subst}, Bool.{Bool, true, false, true≢false}, List.{List}}
use native.Mathlib.{Omega.{arith}, Nat.{le_refl}}
use lib.ListN.{length}
use Rattle.molang.specs.{Forest.{Token, Forest, nil, node, in_order, count, size}, Message.{ok}, Level.{walk, through}}
use Rattle.molang.specs.{Conditional.{conditional_step, conditional_level}, Free.{free, clear, is_nil, is_conditional}}
use Rattle.molang.specs.Work.{Kind, State, conditional, work, begins, in_reading, takes}
use Rattle.molang.proofs.{Trees.{free-leaf, decided, leaf-clear}, Conditional.{conditional-inert}}
use Rattle.ops.specs.Classes.{shares}
use Rattle.nodes.specs.{Store.{wd, slot_start, slot_end, classes_at, RepT}, Slots.{is_leaf_at}, declared.frames.List.{List as Items}}
use Rattle.nodes.proofs.{Store.{tree-below, back-le, back_count}, Trees.{leaf-test}}
use Rattle.levels.{specs.Passes.{walk_of, moved_to, operators, Covers, Runs, conditional_pass, waits}, specs.Items.{BackArray, Ahead}}
use Rattle.levels.{specs.Sides.{tokens_in, ConditionalSide, all, Sides}, specs.Turns.{CanTurn, afresh, TurnTo, enters, ends, Turned}}
use Rattle.levels.{specs.declared.turns.Pass.TheVariants.{Conditional}, specs.declared.turns.Turn.{Turn}}
use Rattle.levels.{specs.declared.turns.Turn.TheVariants.{Enter, Over}, proofs.PassClasses.{runs-covers}}
use Rattle.levels.proofs.Reading.{AheadTo, item, ahead-item, ahead-end, ahead-le, array-put, tree_free, tree-unfree, unfree-leaf}
use Rattle.levels.{proofs.Reading.{same-within}, proofs.States.{sides-of}}
use Rattle.std.specs.Prelude.{Ok}
use Rattle.passes.proofs.{GatherLaws.{walk-node, walk-over}, TurnLaws.{Step}}

-- ---- one item

leaf-gathers : (k : Token) (d rest : Forest) → walk conditional_level d (node k nil rest) ≡ walk conditional_level (node k nil d) rest
leaf-gathers k d rest = unfold walk conditional_level conditional_step in refl

-- ---- how many tokens there are

tokens-leaf : (k : Token) (d : Forest) → is_conditional k.op ≡ true → tokens_in is_conditional (node k nil d) ≡ tokens_in is_conditional d + 1
tokens-leaf k d h = unfold tokens_in in rw (h, tokens_in) (omega arith)

tokens-free : (k : Token) (cs d : Forest) → free is_conditional (node k cs nil) ≡ true
    → tokens_in is_conditional (node k cs d) ≡ tokens_in is_conditional d
unfolding tokens_in
tokens-free k nil d h = rw ((free-leaf is_conditional k nil h).0, tokens_in) refl
tokens-free k (node c cs r) d h = refl

tokens-few : (P : ℕ → Bool) (d : Forest) → tokens_in P d ≤ count d
unfolding tokens_in count
tokens-few P nil = omega arith
tokens-few P (node k nil d) =
    decided (λ n. n ≤ suc (count d)) (P k.op) (1 + tokens_in P d) (tokens_in P d) (λ e. omega (arith, tokens-few P d))
    (λ e. omega (arith, tokens-few P d))
tokens-few P (node k (node c cs r) d) = omega (arith, tokens-few P d)

-- none: the list is left as it is
tokens-clear : (P : ℕ → Bool) (d : Forest) → tokens_in P d ≡ 0 → clear P d ≡ true
unfolding tokens_in clear
tokens-clear P nil h = refl
tokens-clear P (node k nil d) h = go (P k.op) refl (λ e. tokens-clear P d e)
  where
    go : (b : Bool) → P k.op ≡ b → (tokens_in P d ≡ 0 → clear P d ≡ true) → clear P (node k nil d) ≡ true
    go true e c = absurd (omega (arith, rw (e, tokens_in) at h))
    go false e c = leaf-clear P k d e (c (rw (e, tokens_in) at h))
tokens-clear P (node k (node c cs r) d) h = tokens-clear P d h

pub nothing-folds : (d : Forest) → tokens_in is_conditional d ≡ 0 → work conditional d nil ≡ ok (in_order d)
nothing-folds d h = unfold work walk conditional_level in conditional-inert.ends d (tokens-clear is_conditional d h)

-- ---- the classes

pub conditionals-covers : Covers 0x1_0000 is_conditional
conditionals-covers = unfold operators in runs-covers conditional (Conditional 0) conditional_pass

pub conditional-test : {w u : ℕ} {t : Bool} → u ≡ w → t ≡ shares u 0x1_0000 → shares w 0x1_0000 ≡ t
conditional-test e h = ap (λ (x : ℕ). shares x 0x1_0000) (sym e) ∙ sym h

-- ---- the list

-- The gathered items d in the slots from lo to l, the unread ones in those from m to hi; `tokens` of the gathered ones are `?` or `:`.
pub record LeftList (W X : List ℕ) (lo l m hi : ℕ) (v : Items) (tokens : ℕ) (d rest : Forest) : Type 0 where
  pub counted : tokens ≡ tokens_in is_conditional d
  pub done : BackArray W X v.base v.write lo l d
  pub unread : Ahead W X v.base v.read v.len m hi rest
  pub mid : l ≤ m
  pub below : slot_start hi ≤ v.base
  pub within : v.base + v.len ≤ length W
  pub small : length W < 2 ^ 32

left-sides : {W X : List ℕ} {lo l m hi tokens : ℕ} {v : Items} {d rest : Forest} → LeftList W X lo l m hi v tokens d rest
    → Sides conditional W X lo l m hi (walk_of v (Conditional tokens)) d rest
left-sides r =
    sides-of conditional_pass (all r.counted r.done) r.unread tt (back-le r.done.rep) r.mid (ahead-le r.unread).0
    r.below r.within

of-count : {W X : List ℕ} {base write lo l tokens : ℕ} {s : Forest} → ConditionalSide W X base write lo l (Conditional tokens) s
    → (tokens ≡ tokens_in is_conditional s) × BackArray W X base write lo l s
of-count (all e v) = (e, v)

-- A list that the pass holds is one of the conditional pass.
pub of-conditional : {W X : List ℕ} {lo l m hi tokens : ℕ} {v : Items} {rest : Forest} {κ : Kind} → Runs κ (Conditional tokens)
    → (s : State κ)
    → Sides κ W X lo l m hi (walk_of v (Conditional tokens)) s rest → length W < 2 ^ 32
    → (Q : (κ : Kind) → State κ → Type 0) → ((d : Forest) → LeftList W X lo l m hi v tokens d rest → Q conditional d) → Q κ s
of-conditional conditional_pass s sides small Q f =
    let side = of-count sides.done in
    f s
    (record {
      counted = side.0;
      done = side.1;
      unread = sides.unread;
      mid = sides.mid;
      below = sides.below;
      within = sides.within;
      small = small;
    })

-- ---- the loop of `step`

pub record CanGather (W : List ℕ) (v : Items) (tokens : ℕ) : Type 0 where
  pub X : List ℕ
  pub lo : ℕ
  pub l : ℕ
  pub m : ℕ
  pub hi : ℕ
  pub d : Forest
  pub rest : Forest
  pub list : LeftList W X lo l m hi v tokens d rest
  pub together : v.write ≡ v.read

pub can-gather : {W : List ℕ} {v : Items} {tokens : ℕ} → CanTurn W (walk_of v (Conditional tokens)) → CanGather W v tokens
can-gather {W} {v} {tokens} g =
    of-conditional g.holds.sides.runs g.s g.holds.sides g.small (λ κ s. CanGather W v tokens)
    (λ d list. record {
      X = g.X;
      lo = g.lo;
      l = g.holds.l;
      m = g.holds.m;
      hi = g.hi;
      d = d;
      rest = g.rest;
      list = list;
      together = g.holds.turning;
    })

pub record GatherAt (W : List ℕ) (v : Items) (tokens : ℕ) (g : CanGather W v tokens) (read seen : ℕ) : Type 0 where
  pub l : ℕ
  pub m : ℕ
  pub d : Forest
  pub rest : Forest
  pub list : LeftList W g.X g.lo l m g.hi (moved_to v read read) seen d rest
  pub same : walk conditional_level g.d g.rest ≡ walk conditional_level d rest
  pub fewer : count rest ≤ count g.rest
  pub smaller : size rest + count g.rest ≤ size g.rest + count rest

pub record Gathering (W : List ℕ) (v : Items) (tokens read seen : ℕ) : Type 0 where
  pub at : (g : CanGather W v tokens) → GatherAt W v tokens g read seen
  pub few : seen ≤ read
  pub within : read ≤ v.len

pub gather-start : {W : List ℕ} (v : Items) (tokens : ℕ) → CanGather W v tokens → Gathering W v tokens v.read tokens
gather-start {W} v tokens h =
    record {
      at = λ g.
          record {
            l = g.l;
            m = g.m;
            d = g.d;
            rest = g.rest;
            list = record {
              counted = g.list.counted;
              done = subst (λ (i : ℕ). BackArray W g.X v.base i g.lo g.l g.d) g.together g.list.done;
              unread = g.list.unread;
              mid = g.list.mid;
              below = g.list.below;
              within = g.list.within;
              small = g.list.small;
            };
            same = refl;
            fewer = omega arith;
            smaller = omega arith;
          };
      few =
          omega
          (arith, h.list.counted, tokens-few is_conditional h.d, back_count h.list.done.rep, h.list.done.count, h.together);
      within = (ahead-le h.list.unread).1;
    }

enter-item : {W : List ℕ} {v : Items} {tokens : ℕ} {g : CanGather W v tokens} {read seen a m b : ℕ} (s : GatherAt W v tokens g read seen)
    (k : Token) (cs rest : Forest)
    → is_nil cs ≡ false
    → s.m ≤ a → RepT W g.X b a m k cs → Ahead W g.X v.base (read + 1) v.len m g.hi rest
    → walk conditional_level g.d g.rest ≡ walk conditional_level s.d (node k cs rest)
    → count (node k cs rest) ≤ count g.rest → size (node k cs rest) + count g.rest ≤ size g.rest + count (node k cs rest)
    → TurnTo conditional W g.X g.lo g.hi (walk_of v (Conditional tokens)) g.d g.rest
    (Ok (Enter (walk_of (moved_to v (read + 1) read) (Conditional seen)) b))
unfolding work waits begins in_reading takes through conditional_level count size is_nil
enter-item s k nil rest n low t r e c z = absurd (true≢false n)
enter-item {W} {v} {tokens} {g} {read} {seen} {a} {m} {b} s k (node x xs y) rest n low t r e c z =
    let mid = s.list.mid in
    let high = tree-below t in
    let own = t.low in
    enters (record { owner = refl; base = refl; len = refl; classes = refl })
    (record {
      sides = left-sides
          (record {
            counted = s.list.counted;
            done = s.list.done;
            unread = r;
            mid = omega arith;
            below = s.list.below;
            within = s.list.within;
            small = s.list.small;
          });
      framed = refl;
    })
    t refl (afresh refl (omega arith)) (e ∙ walk-node conditional_level is_conditional conditional-inert s.d k x xs y rest) (omega arith)
    (omega arith) (omega arith) (omega arith)

module _ {W : List ℕ} {v : Items} {tokens : ℕ} {g : CanGather W v tokens} {read seen : ℕ} (s : GatherAt W v tokens g read seen)
    (h : read < v.len) where
  gather-slot : slot_end (wd W (v.base + read)) ≤ v.base
  gather-slot = go (ahead-item (wd W (v.base + read)) refl h s.list.unread)
    where
      go : {f : Forest} → AheadTo W g.X v.base read v.len s.m g.hi (wd W (v.base + read)) f
          → slot_end (wd W (v.base + read)) ≤ v.base
      go (item low t r) = omega (arith, tree-below t, (ahead-le r).0, s.list.below)

  -- an item that is gathered as it is
  gather-item : {a m : ℕ} (k : Token) (cs rest : Forest) (seen' : ℕ) → s.m ≤ a → RepT W g.X (wd W (v.base + read)) a m k cs
      → Ahead W g.X v.base (read + 1) v.len m g.hi rest
      → walk conditional_level g.d g.rest ≡ walk conditional_level s.d (node k cs rest) → count (node k cs rest) ≤ count g.rest
      → size (node k cs rest) + count g.rest ≤ size g.rest + count (node k cs rest)
      → walk conditional_level s.d (node k cs rest) ≡ walk conditional_level (node k cs s.d) rest
      → seen' ≡ tokens_in is_conditional (node k cs s.d)
      → GatherAt W v tokens g (read + 1) seen'
  unfolding count size
  gather-item {a} {m} k cs rest seen' low t r e f z w n =
      record {
        l = m;
        m = m;
        d = node k cs s.d;
        rest = rest;
        list = record {
          counted = n;
          done = array-put W W s.list.done t (omega (arith, s.list.mid)) (le_refl m) (λ x o y u q j. refl) (λ j y u. refl) refl;
          unread = r;
          mid = le_refl m;
          below = s.list.below;
          within = s.list.within;
          small = s.list.small;
        };
        same = e ∙ w;
        fewer = omega arith;
        smaller = omega arith;
      }

  gather-free : shares (classes_at W (wd W (v.base + read))) 0x1_0000 ≡ false → GatherAt W v tokens g (read + 1) seen
  gather-free f = go s.same s.fewer s.smaller (ahead-item (wd W (v.base + read)) refl h s.list.unread)
    where
      go : {rest : Forest} → walk conditional_level g.d g.rest ≡ walk conditional_level s.d rest → count rest ≤ count g.rest
          → size rest + count g.rest ≤ size g.rest + count rest
          → AheadTo W g.X v.base read v.len s.m g.hi (wd W (v.base + read)) rest
          → GatherAt W v tokens g (read + 1) seen
      go e c z (item {k = k} {cs = cs} {rest = rest} low t r) =
          let none = tree_free 0x1_0000 is_conditional conditionals-covers t f in
          gather-item k cs rest seen low t r e c z (walk-over conditional_level is_conditional conditional-inert s.d k cs rest none)
          (s.list.counted ∙ sym (tokens-free k cs s.d none))

  gather-token : shares (classes_at W (wd W (v.base + read))) 0x1_0000 ≡ true → is_leaf_at W (wd W (v.base + read)) ≡ true
      → GatherAt W v tokens g (read + 1) (seen + 1)
  unfolding is_nil
  gather-token f leafy = go s.same s.fewer s.smaller (ahead-item (wd W (v.base + read)) refl h s.list.unread)
    where
      at : {a m : ℕ} (k : Token) (cs rest : Forest) → is_nil cs ≡ true
          → walk conditional_level g.d g.rest ≡ walk conditional_level s.d (node k cs rest)
          → count (node k cs rest) ≤ count g.rest → size (node k cs rest) + count g.rest ≤ size g.rest + count (node k cs rest)
          → s.m ≤ a → RepT W g.X (wd W (v.base + read)) a m k cs → Ahead W g.X v.base (read + 1) v.len m g.hi rest
          → GatherAt W v tokens g (read + 1) (seen + 1)
      at k nil rest n e c z low t r =
          let passes = unfree-leaf is_conditional k (tree-unfree 0x1_0000 is_conditional conditionals-covers t f) in
          gather-item k nil rest (seen + 1) low t r e c z (leaf-gathers k s.d rest)
          (ap (λ (x : ℕ). x + 1) s.list.counted ∙ sym (tokens-leaf k s.d passes))
      at k (node x xs y) rest n e c z low t r = absurd (true≢false (sym n))

      go : {rest : Forest} → walk conditional_level g.d g.rest ≡ walk conditional_level s.d rest → count rest ≤ count g.rest
          → size rest + count g.rest ≤ size g.rest + count rest
          → AheadTo W g.X v.base read v.len s.m g.hi (wd W (v.base + read)) rest
          → GatherAt W v tokens g (read + 1) (seen + 1)
      go e c z (item {k = k} {cs = cs} {rest = rest} low t r) = at k cs rest (sym (leaf-test cs t) ∙ leafy) e c z low t r

  -- a node with tokens below it
  gather-enter : is_leaf_at W (wd W (v.base + read)) ≡ false
      → TurnTo conditional W g.X g.lo g.hi (walk_of v (Conditional tokens)) g.d g.rest
      (Ok (Enter (walk_of (moved_to v (read + 1) read) (Conditional seen)) (wd W (v.base + read))))
  gather-enter leafy = go s.same s.fewer s.smaller (ahead-item (wd W (v.base + read)) refl h s.list.unread)
    where
      go : {rest : Forest} → walk conditional_level g.d g.rest ≡ walk conditional_level s.d rest → count rest ≤ count g.rest
          → size rest + count g.rest ≤ size g.rest + count rest
          → AheadTo W g.X v.base read v.len s.m g.hi (wd W (v.base + read)) rest
          → TurnTo conditional W g.X g.lo g.hi (walk_of v (Conditional tokens)) g.d g.rest
          (Ok (Enter (walk_of (moved_to v (read + 1) read) (Conditional seen)) (wd W (v.base + read))))
      go e c z (item {k = k} {cs = cs} {rest = rest} low t r) = enter-item s k cs rest (sym (leaf-test cs t) ∙ leafy) low t r e c z

-- every item is read
gather-over : {W : List ℕ} {v : Items} {tokens : ℕ} {g : CanGather W v tokens} {read seen : ℕ} → GatherAt W v tokens g read seen
    → v.len ≤ read
    → TurnTo conditional W g.X g.lo g.hi (walk_of v (Conditional tokens)) g.d g.rest
    (Ok (Over (walk_of (moved_to v read read) (Conditional seen))))
unfolding work waits
gather-over {W} {v} {tokens} {g} {read} {seen} s h =
    let over = ahead-end s.rest h s.list.unread in
    let list = subst (λ (f : Forest). LeftList W g.X g.lo s.l s.m g.hi (moved_to v read read) seen s.d f) over s.list in
    ends (record { owner = refl; base = refl; len = refl; classes = refl })
    (record { l = s.l; m = s.m; sides = left-sides list; turning = refl }) refl
    (s.same ∙ ap (λ (f : Forest). walk conditional_level s.d f) over)

module _ {W : List ℕ} {v : Items} {tokens read seen : ℕ} (s : Gathering W v tokens read seen) where
  pub gather-in : CanGather W v tokens → read < v.len
      → (v.base + read < length W) × (slot_end (wd W (v.base + read)) ≤ length W) × (length W < 2 ^ 32)
  gather-in g h =
      let slot = gather-slot (s.at g) h in
      let within = g.list.within in
      let small = g.list.small in
      (omega arith, omega arith, small)

  pub gather-passes : read < v.len → shares (classes_at W (wd W (v.base + read))) 0x1_0000 ≡ false → Gathering W v tokens (read + 1) seen
  gather-passes h f = let few = s.few in record { at = λ g. gather-free (s.at g) h f; few = omega arith; within = omega arith }

  pub gather-counts : read < v.len → shares (classes_at W (wd W (v.base + read))) 0x1_0000 ≡ true
      → is_leaf_at W (wd W (v.base + read)) ≡ true → Gathering W v tokens (read + 1) (seen + 1)
  gather-counts h f leafy = let few = s.few in record {
    at = λ g. gather-token (s.at g) h f leafy;
    few = omega arith;
    within = omega arith;
  }

-- ---- what `step` ensures

turned_by : {W : List ℕ} {v : Items} {tokens : ℕ} {t : Step}
    → ((g : CanGather W v tokens) → TurnTo conditional W g.X g.lo g.hi (walk_of v (Conditional tokens)) g.d g.rest t)
    → Turned W (walk_of v (Conditional tokens)) t W
turned_by {W} {v} {tokens} {t} f =
    record {
      to = λ g.
          of-conditional g.holds.sides.runs g.s g.holds.sides g.small
          (λ κ s. TurnTo κ W g.X g.lo g.hi (walk_of v (Conditional tokens)) s g.rest t)
          (λ d list. f (record {
            X = g.X;
            lo = g.lo;
            l = g.holds.l;
            m = g.holds.m;
            hi = g.hi;
            d = d;
            rest = g.rest;
            list = list;
            together = g.holds.turning;
          }));
      within = λ g. same-within;
    }

module _ {W : List ℕ} {v : Items} {tokens read seen : ℕ} {t : Turn} (s : Gathering W v tokens read seen) where
  pub step-enter : read < v.len → is_leaf_at W (wd W (v.base + read)) ≡ false → (v' : Items) → v' ≡ moved_to v (read + 1) read
      → t ≡ Enter (walk_of v' (Conditional seen)) (wd W (v.base + read)) → Turned W (walk_of v (Conditional tokens)) (Ok t) W
  step-enter h leafy v' ev et = rw (et, ev) (turned_by (λ g. gather-enter (s.at g) h leafy))

  pub step-over : v.len ≤ read → (v' : Items) → v' ≡ moved_to v v.len v.len → t ≡ Over (walk_of v' (Conditional seen))
      → Turned W (walk_of v (Conditional tokens)) (Ok t) W
  step-over h v' ev et =
      let end : v.len ≡ read = omega (arith, s.within) in
      rw (et, ev ∙ ap (λ (x : ℕ). moved_to v x x) end) (turned_by (λ g. gather-over (s.at g) h))
