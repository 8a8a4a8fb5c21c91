-- What a change of words leaves of a list under work (`sides-keep`): where the slots of its done and its unread side and the list's own
-- words are as they were, it is as it was, whatever its pass.
use Prim.Native.Nat.{ℕ, ◌+◌, ◌≤◌, ◌<◌}
use mathlib.Core.{Path.{◌≡◌}, List.{List}}
use native.Mathlib.Omega.{arith}
use lib.ListN.{length}
use Rattle.molang.specs.{Forest.{Token, Forest}, Level.{Gathered}, Calls.{Indexing}, Statements.{Split}}
use Rattle.molang.specs.Work.{Kind, calls, statements, arrays, unary_minus_and_not, conditional, returns, binary, Right, State}
use Rattle.nodes.specs.Store.{wd, slot_words, first_field, next_field, slot_start, first_at, next_at, Chain, Out, RepB, begins, put}
use Rattle.nodes.specs.declared.frames.List.{List as Items}
use Rattle.nodes.proofs.{Tokens.{token-keep}, Store.{tree-below, tree-out, tree-keep, back-le, back_keep}}
use Rattle.levels.specs.Sides.{GatherSide, LevelSide, ConditionalSide, OpenAt, StatementSide, OpenArray, ArraySide, RightSide, DoneSide}
use Rattle.levels.specs.{Sides.{UnreadSide, Sides}, declared.turns.Pass.{Pass}, declared.turns.Walk.{Walk}}
use Rattle.levels.proofs.{Reading.{SameSlots, SameWords, back-array-keep, array-keep, ahead-keep}, Ended.{ended-le, ended-at-keep}}
use Rattle.levels.proofs.States.{sides-of}

module _ (W W' : List ℕ) where
  -- ---- a chain from the last child on

  pub back-links : {X ds : List ℕ} {lo hi : ℕ} {d : Forest} (f : ℕ) → RepB W X ds lo hi d
      → ((s : ℕ) → lo ≤ s → s < hi → Out s X → next_at W' s ≡ next_at W s) → Chain W f ds → Chain W' f ds
  back-links f (begins e) h p = p
  back-links {X} f (put {b = b} {l = l} {m = m} r t e) h p =
      let le = back-le r in
      let tl = t.low in
      let below = tree-below t in
      (p.0, p.1, rw (h b (omega arith) (omega arith) (tree-out t)) (back-links (next_at W b) r (λ s x y o. h s x (omega arith) o) p.2))

  pub open-array-keep : {X : List ℕ} {a lo l : ℕ} {q : Token} {contents : Forest} → SameSlots W W' X lo l → OpenArray W X a lo l q contents
      → OpenArray W' X a lo l q contents
  open-array-keep {X} {a} {lo} {l} slots v =
      let own : (o : ℕ) → o < slot_words → wd W' (slot_start a + o) ≡ wd W (slot_start a + o) =
      λ o x. slots a o v.low v.high x v.out in
      record {
        cs = v.cs;
        low = v.low;
        high = v.high;
        pos = v.pos;
        out = v.out;
        token = token-keep W W' a (λ o x. own o (omega arith)) v.token;
        is_array = v.is_array;
        chain =
            rw (own first_field (omega arith))
            (back-links (first_at W a) v.kids (λ s x y o. slots s next_field (omega (arith, v.low)) y (omega arith) o.1) v.chain);
        kids = back_keep W W' (λ s o x y z u n. slots s o (omega (arith, v.low)) y z u.1) v.kids;
      }

  -- ---- the done side of each pass

  module _ {X : List ℕ} {base write lo l : ℕ} (slots : SameSlots W W' X lo l) (words : SameWords W W' base (base + write)) where
    gather-keep : {s : Gathered} → GatherSide W X base write lo l s → GatherSide W' X base write lo l s
    gather-keep (GatherSide.all v) = GatherSide.all (back-array-keep W W' slots words v)

    level-keep : {ops : List ℕ} {p : Pass} {s : Gathered} → LevelSide W X base write lo l ops p s → LevelSide W' X base write lo l ops p s
    level-keep (LevelSide.all e v) = LevelSide.all e (back-array-keep W W' slots words v)
    level-keep (LevelSide.operator {m = m} e v n u t) =
        let le = back-le v.rep in
        let below = tree-below t in
        LevelSide.operator e (back-array-keep W W' (λ s o x y z h. slots s o x (omega (arith, t.low)) z h) words v) n u
        (tree-keep W W' (λ s o x y z h i. slots s o (omega arith) y z h) t)

    conditional-keep : {p : Pass} {s : Forest} → ConditionalSide W X base write lo l p s → ConditionalSide W' X base write lo l p s
    conditional-keep (ConditionalSide.all e v) = ConditionalSide.all e (back-array-keep W W' slots words v)

    open-at-keep : {n m : ℕ} {s : Token} {d : Forest} → lo ≤ m → OpenAt W X base n write m l s d → OpenAt W' X base n write m l s d
    open-at-keep {n} {m} low v =
        record {
          first = v.first;
          earliest = v.earliest;
          named = v.named;
          count = v.count;
          reached = v.reached;
          items =
              back-array-keep W W' (λ s o x y z h. slots s o (omega arith) y z h)
              (λ j x y. words j (omega arith) (omega (arith, v.reached))) v.items;
        }

    statement-keep : {p : Pass} {s : Split} → StatementSide W X base write lo l p s → StatementSide W' X base write lo l p s
    statement-keep (StatementSide.whole v) = StatementSide.whole (back-array-keep W W' slots words v)
    statement-keep (StatementSide.closed v) = StatementSide.closed (ended-at-keep W W' slots words v)
    statement-keep (StatementSide.current {m = m} v o) =
        let low = ended-le v.rep in
        let high = back-le o.items.rep in
        StatementSide.current
        (ended-at-keep W W' (λ s i x y z h. slots s i x (omega arith) z h) (λ j x y. words j x (omega (arith, o.reached))) v)
        (open-at-keep low o)

    array-side-keep : {p : Pass} {s : Indexing} → ArraySide W X base write lo l p s → ArraySide W' X base write lo l p s
    array-side-keep (ArraySide.all v) = ArraySide.all (back-array-keep W W' slots words v)
    array-side-keep (ArraySide.growing {m = m} v a) =
        let low = back-le v.rep in
        let in-low = a.low in
        let in-high = a.high in
        ArraySide.growing (back-array-keep W W' (λ s i x y z h. slots s i x (omega arith) z h) words v)
        (open-array-keep (λ s i x y z h. slots s i (omega arith) y z h) a)

  right-keep : {X : List ℕ} {base write len m hi : ℕ} {s : Right} → SameSlots W W' X m hi → SameWords W W' (base + write) (base + len)
      → RightSide W X base write len m hi s → RightSide W' X base write len m hi s
  right-keep slots words (RightSide.all e v) = RightSide.all e (array-keep W W' slots (λ j x y. words j x (omega arith)) v)

  -- ---- both sides

  module _ (X : List ℕ) (lo l m hi : ℕ) (left : SameSlots W W' X lo l) (right : SameSlots W W' X m hi) where
    pub done-keep : (κ : Kind) (w : Walk) (s : State κ) → w.list.write ≤ w.list.len
        → SameWords W W' w.list.base (w.list.base + w.list.len)
        → DoneSide κ W X lo l m hi w s → DoneSide κ W' X lo l m hi w s
    done-keep (calls kind) w s h words v = gather-keep left (λ j x y. words j x (omega arith)) v
    done-keep statements w s h words v = statement-keep left (λ j x y. words j x (omega arith)) v
    done-keep arrays w s h words v = array-side-keep left (λ j x y. words j x (omega arith)) v
    done-keep unary_minus_and_not w s h words v = right-keep right (λ j x y. words j (omega arith) y) v
    done-keep conditional w s h words v = conditional-keep left (λ j x y. words j x (omega arith)) v
    done-keep returns w s h words v = gather-keep left (λ j x y. words j x (omega arith)) v
    done-keep (binary ops) w s h words v = level-keep left (λ j x y. words j x (omega arith)) v

    pub unread-keep : (κ : Kind) (v : Items) (rest : Forest) → v.read ≤ v.len → SameWords W W' v.base (v.base + v.len)
        → UnreadSide κ W X lo l m hi v rest → UnreadSide κ W' X lo l m hi v rest
    unread-keep (calls kind) i rest h words v = ahead-keep W W' right (λ j x y. words j (omega arith) y) v
    unread-keep statements i rest h words v = ahead-keep W W' right (λ j x y. words j (omega arith) y) v
    unread-keep arrays i rest h words v = ahead-keep W W' right (λ j x y. words j (omega arith) y) v
    unread-keep unary_minus_and_not i rest h words v = back-array-keep W W' left (λ j x y. words j x (omega arith)) v
    unread-keep conditional i rest h words v = ahead-keep W W' right (λ j x y. words j (omega arith) y) v
    unread-keep returns i rest h words v = ahead-keep W W' right (λ j x y. words j (omega arith) y) v
    unread-keep (binary ops) i rest h words v = ahead-keep W W' right (λ j x y. words j (omega arith) y) v

    pub sides-keep : {κ : Kind} {w : Walk} {s : State κ} {rest : Forest} → w.list.write ≤ w.list.len → w.list.read ≤ w.list.len
        → SameWords W W' w.list.base (w.list.base + w.list.len) → length W' ≡ length W → Sides κ W X lo l m hi w s rest
        → Sides κ W' X lo l m hi w s rest
    sides-keep {κ} {w} {s} {rest} write read words long v =
        sides-of v.runs (done-keep κ w s write words v.done) (unread-keep κ w.list rest read words v.unread) v.agrees
        v.low v.mid v.high v.below (rw long v.within)
