-- THE FRAME RULE (`stack-keep`): what the list on top does changes the slots of its own interval, its owner's links, and words from its
-- base on. The lists that wait below it are as they were.
use Prim.Native.Nat.{ℕ, ◌+◌, ◌≤◌, ◌<◌}
use mathlib.Core.{Path.{◌≡◌, ◌∙◌}, Logic.{◌⊎◌, inl, inr}, List.{List, []}}
use native.Mathlib.{Omega.{arith}, Nat.{le_refl}}
use lib.ListN.{length}
use Rattle.molang.specs.{Forest.{Token, Forest}, Work.{Kind, State, Held}}
use Rattle.nodes.specs.{Store.{wd, slot_words, slot_start, Out, Free}, declared.frames.List.{List as Items}}
use Rattle.nodes.proofs.{Tokens.{token-keep}, Keeping.{free-above, free-beside, free_own, free-inner}}
use Rattle.levels.specs.Passes.{walk_of, Runs, call, math_call, unsplit_pass, split, array, unary, level, conditional_pass, return_pass}
use Rattle.levels.{specs.Sides.{RightSide, DoneSide, UnreadSide, AtTurn, InFrame, Holds, Waits}, specs.declared.turns.Pass.{Pass}}
use Rattle.levels.{specs.declared.turns.Walk.{Walk}, proofs.Reading.{ahead-le, SameSlots, SameWords}}
use Rattle.grouping.specs.Driver.{FrameOf, Stack, bottom, over, Beyond}
use Rattle.grouping.proofs.SideLaws.{sides-keep}

-- ---- how far a list is read and written

right-within : {W X : List ℕ} {base write len m hi : ℕ} {s : _} → RightSide W X base write len m hi s → write ≤ len
right-within (RightSide.all e v) = omega arith

module _ (W X : List ℕ) (lo l m hi : ℕ) (v : Items) (rest : Forest) where
  frame-within : (κ : Kind) (p : Pass) (t : State κ) → Runs κ p → DoneSide κ W X lo l m hi (walk_of v p) t
      → UnreadSide κ W X lo l m hi v rest → InFrame v p
      → (v.write ≤ v.len) × (v.read ≤ v.len)
  frame-within κ p t call d u f = let e = (ahead-le u).1 in (omega arith, e)
  frame-within κ p t math_call d u f = let e = (ahead-le u).1 in (omega arith, e)
  frame-within κ p t unsplit_pass d u f = let e = (ahead-le u).1 in (omega arith, e)
  frame-within κ p t split d u f = let e = (ahead-le u).1 in (omega arith, e)
  frame-within κ p t array d u f = let e = (ahead-le u).1 in (omega arith, e)
  frame-within κ p t unary d u f = let e = right-within d in (e, omega arith)
  frame-within κ p t (level h) d u f = let e = (ahead-le u).1 in (omega arith, e)
  frame-within κ p t conditional_pass d u f = let e = (ahead-le u).1 in (omega arith, e)
  frame-within κ p t return_pass d u f = let e = (ahead-le u).1 in (omega arith, e)

  turn-within : (κ : Kind) (p : Pass) (s : State κ) → Runs κ p → DoneSide κ W X lo l m hi (walk_of v p) s → UnreadSide κ W X lo l m hi v rest
      → AtTurn v p
      → (v.write ≤ v.len) × (v.read ≤ v.len)
  turn-within κ p t call d u f = let e = (ahead-le u).1 in (omega arith, e)
  turn-within κ p t math_call d u f = let e = (ahead-le u).1 in (omega arith, e)
  turn-within κ p t unsplit_pass d u f = let e = (ahead-le u).1 in (omega arith, e)
  turn-within κ p t split d u f = let e = (ahead-le u).1 in (omega arith, e)
  turn-within κ p t array d u f = let e = (ahead-le u).1 in let g = f.1 in (omega arith, e)
  turn-within κ p t unary d u f = let e = right-within d in (e, omega arith)
  turn-within κ p t (level h) d u f = let e = (ahead-le u).1 in let g = f.1 in (omega arith, e)
  turn-within κ p t conditional_pass d u f = let e = (ahead-le u).1 in (omega arith, e)
  turn-within κ p t return_pass d u f = let e = (ahead-le u).1 in (omega arith, e)

pub waits-within : {κ : Kind} {W X : List ℕ} {lo l m hi : ℕ} {w : Walk} {t : State κ} {rest : Forest} → Waits κ W X lo l m hi w t rest
    → (w.list.write ≤ w.list.len) × (w.list.read ≤ w.list.len)
waits-within {κ} {W} {X} {lo} {l} {m} {hi} {w} {t} {rest} v =
    frame-within W X lo l m hi w.list rest κ w.pass t v.sides.runs v.sides.done v.sides.unread v.framed

pub holds-within : {κ : Kind} {W X : List ℕ} {lo hi : ℕ} {w : Walk} {s : State κ} {rest : Forest} → Holds κ W X lo hi w s rest
    → (w.list.write ≤ w.list.len) × (w.list.read ≤ w.list.len)
holds-within {κ} {W} {X} {lo} {hi} {w} {s} {rest} v =
    turn-within W X lo v.l v.m hi w.list rest κ w.pass s v.sides.runs v.sides.done v.sides.unread v.turning

-- ---- a list that waits

pub waits-keep : (W W' : List ℕ) {κ : Kind} {X : List ℕ} {lo l m hi : ℕ} {w : Walk} {t : State κ} {rest : Forest} → SameSlots W W' X lo l
    → SameSlots W W' X m hi
    → SameWords W W' w.list.base (w.list.base + w.list.len) → length W' ≡ length W → Waits κ W X lo l m hi w t rest
    → Waits κ W' X lo l m hi w t rest
waits-keep W W' {X = X} {lo} {l} {m} {hi} left right words long v =
    let e = waits-within v in
    record { sides = sides-keep W W' X lo l m hi left right e.0 e.1 words long v.sides; framed = v.framed }

module _ (W W' : List ℕ) {κ : Kind} {classes : ℕ} where
  frame-keep : {X : List ℕ} {lo l m hi b : ℕ} {w : Walk} {t : State κ} {k : Token} {rest : Forest}
      → ((j : ℕ) → Free X l m j → j < w.list.base + w.list.len + 6 → wd W' j ≡ wd W j)
      → ((o : ℕ) → o < 5 → wd W' (slot_start b + o) ≡ wd W (slot_start b + o))
      → length W' ≡ length W → FrameOf κ classes W X lo l m hi w b t k rest → FrameOf κ classes W' X lo l m hi w b t k rest
  frame-keep {X} {lo} {l} {m} {hi} {b} {w} same own long v =
      let below = v.waiting.sides.below in
      let high = v.waiting.sides.high in
      let mid = v.waiting.sides.mid in
      let word : (j : ℕ) → w.list.base ≤ j → j < w.list.base + w.list.len + 6 → wd W' j ≡ wd W j =
      λ j x y. same j (free-above X l m j (omega arith)) y in
      let slot : (s o : ℕ) → s < hi → o < slot_words → (s < l) ⊎ (m ≤ s) → wd W' (slot_start s + o) ≡ wd W (slot_start s + o)
      = λ s o x y z. same (slot_start s + o) (free-beside X l m s o y z) (omega arith) in
      let top = w.list.base + w.list.len in
      let f = v.words in
      record {
        waiting =
            waits-keep W W' (λ s o x y z u. slot s o (omega arith) z (inl y)) (λ s o x y z u. slot s o y z (inr x))
            (λ j x y. word j x (omega arith)) long v.waiting;
        unlent = v.unlent;
        same = v.same;
        token = token-keep W W' b own v.token;
        low = v.low;
        high = v.high;
        pos = v.pos;
        out = v.out;
        words = record {
          above = f.above;
          owner-word = word top (omega arith) (omega arith) ∙ f.owner-word;
          base_word = word (top + 1) (omega arith) (omega arith) ∙ f.base_word;
          read_word = word (top + 2) (omega arith) (omega arith) ∙ f.read_word;
          write_word = word (top + 3) (omega arith) (omega arith) ∙ f.write_word;
          first-word = word (top + 4) (omega arith) (omega arith) ∙ f.first-word;
          second_word = word (top + 5) (omega arith) (omega arith) ∙ f.second_word;
        };
        room = rw long v.room;
      }

-- ---- the stack

-- where the list on top lies
pub record Bounds (base0 hi0 : ℕ) (X : List ℕ) (owner lo hi base : ℕ) : Type 0 where
  pub based : base0 ≤ base
  pub within : hi ≤ hi0
  pub low : lo ≤ owner
  pub high : owner < hi
  pub out : Out owner X

pub stack-bounds : {κ : Kind} {classes : ℕ} {W : List ℕ} {base0 hi0 : ℕ} {X : List ℕ} {owner lo hi base : ℕ} {S : List (Held κ)}
    → 0 < hi0 → Stack κ classes W base0 hi0 X owner lo hi base S → Bounds base0 hi0 X owner lo hi base
stack-bounds {base0 = base0} {hi0} h bottom = record { based = le_refl base0; within = le_refl hi0; low = le_refl 0; high = h; out = tt }
stack-bounds h (over s f) =
    let e = stack-bounds h s in
    record {
      based = omega (arith, e.based);
      within = omega (arith, e.within, f.waiting.sides.high);
      low = f.low;
      high = f.high;
      out = f.out;
    }

-- the slots of the list on top are some of the outermost list's
pub stack-within : {κ : Kind} {classes : ℕ} {W : List ℕ} {base0 hi0 : ℕ} {X : List ℕ} {owner lo hi base : ℕ} {S : List (Held κ)}
    → Stack κ classes W base0 hi0 X owner lo hi base S → hi ≤ hi0
stack-within {hi0 = hi0} bottom = le_refl hi0
stack-within (over s f) = omega (arith, stack-within s, f.waiting.sides.high)

pub stack-keep : (W W' : List ℕ) {κ : Kind} {classes : ℕ} {base0 hi0 : ℕ} {X : List ℕ} {owner lo hi base : ℕ} {S : List (Held κ)}
    → 0 < hi0 → Stack κ classes W base0 hi0 X owner lo hi base S → ((j : ℕ) → Free X lo hi j → j < base → wd W' j ≡ wd W j)
    → ((o : ℕ) → o < 5 → wd W' (slot_start owner + o) ≡ wd W (slot_start owner + o)) → length W' ≡ length W
    → Stack κ classes W' base0 hi0 X owner lo hi base S
stack-keep W W' h bottom same own long = bottom
stack-keep W W' h (over {X = X} {lo = lo} {l = l} {m = m} {hi = hi} {w = w} s f) same own long =
    let e = stack-bounds h s in
    let low = f.waiting.sides.low in
    let high = f.waiting.sides.high in
    let below = f.waiting.sides.below in
    over
    (stack-keep W W' h s (λ j x y. same j (free-inner w.list.owner X lo hi l m j low high x) (omega arith))
    (λ o x. same (slot_start w.list.owner + o) (free_own w.list.owner X l m o (omega arith)) (omega (arith, e.high))) long)
    (frame-keep W W' same own long f)

-- ---- what the whole pass changes

-- what is no slot of the outermost interval is none of the list on top
pub free-top : (X : List ℕ) (lo hi hi0 j : ℕ) → hi ≤ hi0 → Free [] 0 hi0 j → Free X lo hi j
free-top X lo hi hi0 j h f s o x y z u = f s o (omega arith) (omega arith) z tt

pub beyond-then : {W W' W'' : List ℕ} {base0 hi0 : ℕ} → Beyond W W' base0 hi0 → Beyond W' W'' base0 hi0 → Beyond W W'' base0 hi0
beyond-then a b = record { kept = λ j x y. b.kept j x y ∙ a.kept j x y; long = b.long ∙ a.long }

-- a change on the list on top
pub top-beyond : {W W' : List ℕ} (base0 hi0 : ℕ) {X : List ℕ} {owner lo hi base : ℕ} → Bounds base0 hi0 X owner lo hi base
    → ((j : ℕ) → Free X lo hi j → j < base → wd W' j ≡ wd W j) → length W' ≡ length W → Beyond W W' base0 hi0
top-beyond base0 hi0 {X} {owner} {lo} {hi} {base} e same long =
    record { kept = λ j x y. same j (free-top X lo hi hi0 j e.within x) (omega (arith, e.based)); long = long }
