-- The states of a pass and the words of a frame: what is read back is what was kept.
use Prim.Native.Nat.{ℕ, ◌+◌, ◌≤◌}
use mathlib.Core.{Path.{◌≡◌, refl, sym, ap, ◌∙◌}, Logic.{◌≢◌}, Bool.{Bool, true, false, not, true≢false}, List.{List, [], ◌∷◌}}
use types.Run.{OneOf, miss}
use denote.Enum.Declared.{tag_of}
use lib.{Dec.{eqb}, ListN.{length}}
use borrow.Author.Tests.{eq-eqb, ne_eqb}
use Rattle.std.specs.{Prelude.{None, Some, if◌then◌else◌}, Bool.{then_some}}
use Rattle.molang.specs.{Forest.{Forest}, Work.{Kind, State}}
use Rattle.nodes.specs.{declared.frames.Held.{Held}, Store.{slot_start}}
use Rattle.levels.specs.{Passes.{Runs}, declared.turns.Walk.{Walk}, Sides.{DoneSide, UnreadSide, Agrees, Sides, AtTurn, Holds}}
use Rattle.levels.specs.{Passes.{held_words, held_of, split_or, resumed_with, waiting_of, begun_of}, declared.turns.Pass.{Pass}}
use Rattle.levels.specs.declared.turns.Pass.TheVariants.{Calls, MathCalls, Unsplit, Split, Arrays, Unary, Binary, Conditional}
use Rattle.levels.specs.declared.turns.Pass.TheVariants.{Returns}
use Rattle.levels.specs.contracts.turns.Pass.{the_type}

either-pass : (b : Bool) (p q : Pass) → (b ≡ true → p ≡ elim b [ true ↦ p | false ↦ q ]) × (b ≡ false → q ≡ elim b [ true ↦ p | false ↦ q ])
either-pass true p q = (λ e. refl, λ e. absurd (true≢false e))
either-pass false p q = (λ e. absurd (true≢false (sym e)), λ e. refl)

pub split-none : (split done : ℕ) → split ≡ 0 → Unsplit ≡ split_or split done
split-none split done e = unfold split_or in (either-pass (eqb split 0) Unsplit (Split done)).0 (eq-eqb split 0 e)

pub split-some : (split done : ℕ) → split ≢ 0 → Split done ≡ split_or split done
split-some split done n = unfold split_or in (either-pass (eqb split 0) Unsplit (Split done)).1 (ne_eqb split 0 n)

pub resumed-as : (p q : Pass) (h : Held) → p ≡ q → resumed_with q h ≡ resumed_with p h
resumed-as p q h e = ap (λ (x : Pass). resumed_with x h) (sym e)

-- ---- the arms of a `match` that name several states, by the states' numbers

-- The states that hold nothing of a list.
pub held_none : (p : Pass) → OneOf (0 ∷ 1 ∷ 2 ∷ 5 ∷ 8 ∷ []) (tag_of the_type p) → held_words 0 0 ≡ held_of p
held_none Calls h = refl
held_none MathCalls h = refl
held_none Unsplit h = refl
held_none (Split done) h = absurd (miss (0 ∷ 1 ∷ 2 ∷ 5 ∷ 8 ∷ []) 3 tt h)
held_none (Arrays array lent) h = absurd (miss (0 ∷ 1 ∷ 2 ∷ 5 ∷ 8 ∷ []) 4 tt h)
held_none Unary h = refl
held_none (Binary classes pending) h = absurd (miss (0 ∷ 1 ∷ 2 ∷ 5 ∷ 8 ∷ []) 6 tt h)
held_none (Conditional tokens) h = absurd (miss (0 ∷ 1 ∷ 2 ∷ 5 ∷ 8 ∷ []) 7 tt h)
held_none Returns h = refl

-- The states with no array that waits.
pub waiting_none : (p : Pass) → OneOf (0 ∷ 1 ∷ 2 ∷ 3 ∷ 5 ∷ 6 ∷ 7 ∷ 8 ∷ []) (tag_of the_type p) → None ≡ waiting_of p
unfolding waiting_of
waiting_none Calls h = refl
waiting_none MathCalls h = refl
waiting_none Unsplit h = refl
waiting_none (Split done) h = refl
waiting_none (Arrays array lent) h = absurd (miss (0 ∷ 1 ∷ 2 ∷ 3 ∷ 5 ∷ 6 ∷ 7 ∷ 8 ∷ []) 4 tt h)
waiting_none Unary h = refl
waiting_none (Binary classes pending) h = refl
waiting_none (Conditional tokens) h = refl
waiting_none Returns h = refl

-- An array that is not slot 0 waits.
pub waiting_array : {p : Pass} (array lent : ℕ) → Arrays array lent ≡ p → then_some (not (eqb array 0)) array ≡ waiting_of p
unfolding waiting_of
waiting_array array lent e = given (eqb array 0) ∙ ap waiting_of e
  where
    given : (b : Bool) → then_some (not b) array ≡ (if b then None else Some array)
    given true = refl
    given false = refl

-- The states of the statement pass.
pub resumed-statements : (p : Pass) (h : Held) → OneOf (2 ∷ 3 ∷ []) (tag_of the_type p) → split_or h.first h.second ≡ resumed_with p h
unfolding resumed_with
resumed-statements Calls h t = absurd (miss (2 ∷ 3 ∷ []) 0 tt t)
resumed-statements MathCalls h t = absurd (miss (2 ∷ 3 ∷ []) 1 tt t)
resumed-statements Unsplit h t = refl
resumed-statements (Split done) h t = refl
resumed-statements (Arrays array lent) h t = absurd (miss (2 ∷ 3 ∷ []) 4 tt t)
resumed-statements Unary h t = absurd (miss (2 ∷ 3 ∷ []) 5 tt t)
resumed-statements (Binary classes pending) h t = absurd (miss (2 ∷ 3 ∷ []) 6 tt t)
resumed-statements (Conditional tokens) h t = absurd (miss (2 ∷ 3 ∷ []) 7 tt t)
resumed-statements Returns h t = absurd (miss (2 ∷ 3 ∷ []) 8 tt t)

-- The states that no frame's words change. They begin as they are, and so do those of the statement pass.
pub resumed-same : (p : Pass) (h : Held) → OneOf (0 ∷ 1 ∷ 5 ∷ 8 ∷ []) (tag_of the_type p) → p ≡ resumed_with p h
unfolding resumed_with
resumed-same Calls h t = refl
resumed-same MathCalls h t = refl
resumed-same Unsplit h t = absurd (miss (0 ∷ 1 ∷ 5 ∷ 8 ∷ []) 2 tt t)
resumed-same (Split done) h t = absurd (miss (0 ∷ 1 ∷ 5 ∷ 8 ∷ []) 3 tt t)
resumed-same (Arrays array lent) h t = absurd (miss (0 ∷ 1 ∷ 5 ∷ 8 ∷ []) 4 tt t)
resumed-same Unary h t = refl
resumed-same (Binary classes pending) h t = absurd (miss (0 ∷ 1 ∷ 5 ∷ 8 ∷ []) 6 tt t)
resumed-same (Conditional tokens) h t = absurd (miss (0 ∷ 1 ∷ 5 ∷ 8 ∷ []) 7 tt t)
resumed-same Returns h t = refl

pub begun-same : (p : Pass) → OneOf (0 ∷ 1 ∷ 2 ∷ 3 ∷ 5 ∷ 8 ∷ []) (tag_of the_type p) → p ≡ begun_of p
unfolding begun_of
begun-same Calls t = refl
begun-same MathCalls t = refl
begun-same Unsplit t = refl
begun-same (Split done) t = refl
begun-same (Arrays array lent) t = absurd (miss (0 ∷ 1 ∷ 2 ∷ 3 ∷ 5 ∷ 8 ∷ []) 4 tt t)
begun-same Unary t = refl
begun-same (Binary classes pending) t = absurd (miss (0 ∷ 1 ∷ 2 ∷ 3 ∷ 5 ∷ 8 ∷ []) 6 tt t)
begun-same (Conditional tokens) t = absurd (miss (0 ∷ 1 ∷ 2 ∷ 3 ∷ 5 ∷ 8 ∷ []) 7 tt t)
begun-same Returns t = refl

-- Both sides of a list, by their parts.
pub sides-of : {κ : Kind} {W X : List ℕ} {lo l m hi : ℕ} {w : Walk} {s : State κ} {rest : Forest} → Runs κ w.pass
    → DoneSide κ W X lo l m hi w s → UnreadSide κ W X lo l m hi w.list rest → Agrees κ w.list s rest → lo ≤ l → l ≤ m → m ≤ hi
    → slot_start hi ≤ w.list.base → w.list.base + w.list.len ≤ length W → Sides κ W X lo l m hi w s rest
sides-of runs done unread agrees low mid high below within =
    record {
      runs = runs;
      done = done;
      unread = unread;
      agrees = agrees;
      low = low;
      mid = mid;
      high = high;
      below = below;
      within = within;
    }

pub holds_of : {κ : Kind} {W X : List ℕ} {lo hi : ℕ} {w : Walk} {s : State κ} {rest : Forest} (l m : ℕ) → Sides κ W X lo l m hi w s rest
    → AtTurn w.list w.pass → Holds κ W X lo hi w s rest
holds_of l m sides turning = record { l = l; m = m; sides = sides; turning = turning }
