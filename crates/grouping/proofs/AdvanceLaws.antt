-- One turn of the driver (`advance`): the level goes on with its list, an item is entered, the list ends, or the pass fails. The result of
-- the whole pass stays what it was.
use Prim.Native.Nat.{ℕ, ◌+◌, ◌≤◌, ◌<◌}
use mathlib.Core.{Path.{◌≡◌, sym, ap, ◌∙◌, subst, subst₂}, Logic.{inl}, List.{List, ◌∷◌}}
use native.Mathlib.{Omega.{arith}, Nat.{le_refl}}
use Rattle.molang.specs.{Forest.{Forest, count, size}, Message.{Result}, Work.{Kind, State, work, unwound}}
use Rattle.molang.proofs.{Trees.{count-size}, Work.{reading-size, unwound-fail}}
use Rattle.nodes.{specs.Store.{wd, slot_start, RepT, Free}, proofs.Keeping.{free_own, free-inner}}
use Rattle.levels.specs.Sides.{Holds, Waits}
use Rattle.levels.specs.Turns.{SameList, Within, CanTurn, turns_left, Begins, TurnTo, goes, enters, ends, fails, Turned}
use Rattle.levels.specs.{declared.failure.Failure.{Failure}, declared.turns.Walk.{Walk}, declared.turns.Turn.{Turn}}
use Rattle.levels.specs.declared.turns.Turn.TheVariants.{On, Enter, Over}
use Rattle.std.specs.Prelude.{Result as Returned, Ok, Err}
use Rattle.grouping.specs.Driver.{Room, Stack, Full, Going, turns_below, Beyond, NextTo, CanDescend, Descended, CanClose, Closed}
use Rattle.grouping.specs.{Driver.{CanAdvance, Advanced}, declared.driver.Next.{Next}}
use Rattle.grouping.specs.declared.driver.Next.TheVariants.{On as Onward}
use Rattle.grouping.proofs.StackLaws.{Bounds, stack-bounds, stack-keep, top-beyond, beyond-then}

pub advance-can-turn : {W : List ℕ} {w : Walk} {base0 : ℕ} → CanAdvance W w base0 → CanTurn W w
advance-can-turn {w = w} g =
    record {
      κ = g.κ;
      X = w.list.owner ∷ g.going.X;
      lo = g.going.lo;
      hi = g.going.hi;
      s = g.s;
      rest = g.rest;
      holds = g.going.holds;
      small = g.going.small;
    }

next_more : {κ : Kind} {classes : ℕ} {W' : List ℕ} {base0 hi0 : ℕ} {r : Result} {turns turns' : ℕ} {x : Returned Next Failure} → turns ≤ turns'
    → NextTo κ classes W' base0 hi0 r turns x
    → NextTo κ classes W' base0 hi0 r turns' x
next_more h (NextTo.goes g e t) = NextTo.goes g e (omega arith)
next_more h (NextTo.ends e v) = NextTo.ends e v
next_more h (NextTo.fails e t) = NextTo.fails e t

module _ {W W1 : List ℕ} {w : Walk} {base0 : ℕ} (g : CanAdvance W w base0) (r : Returned Turn Failure) (turned : Turned W w r W1) where
  turned-to : TurnTo g.κ W1 (w.list.owner ∷ g.going.X) g.going.lo g.going.hi w g.s g.rest r
  turned-to = unfold advance-can-turn in turned.to (advance-can-turn g)

  turned-within : Within W W1 (w.list.owner ∷ g.going.X) g.going.lo g.going.hi w.list
  turned-within = unfold advance-can-turn in turned.within (advance-can-turn g)

  bounds : Bounds base0 g.hi0 g.going.X w.list.owner g.going.lo g.going.hi w.list.base
  bounds = stack-bounds g.going.some g.going.stack

  same1 : (j : ℕ) → Free g.going.X g.going.lo g.going.hi j → j < w.list.base → wd W1 j ≡ wd W j
  same1 j x y =
      turned-within.kept j
      (free-inner w.list.owner g.going.X g.going.lo g.going.hi g.going.lo g.going.hi j (le_refl g.going.lo)
      (le_refl g.going.hi) x)
      (inl y)

  stack1 : Stack g.κ g.classes W1 base0 g.hi0 g.going.X w.list.owner g.going.lo g.going.hi w.list.base g.S
  stack1 =
      let below = g.going.holds.sides.below in
      stack-keep W W1 g.going.some g.going.stack same1
      (λ o x. turned-within.kept (slot_start w.list.owner + o)
      (free_own w.list.owner g.going.X g.going.lo g.going.hi o (omega arith)) (inl (omega (arith, bounds.high))))
      turned-within.long

  stack_of : {w' : Walk} → SameList w w'
      → Stack g.κ g.classes W1 base0 g.hi0 g.going.X w'.list.owner g.going.lo g.going.hi w'.list.base g.S
  stack_of l =
      subst₂ (λ (x : ℕ) (y : ℕ). Stack g.κ g.classes W1 base0 g.hi0 g.going.X x g.going.lo g.going.hi y g.S)
      (sym l.owner) (sym l.base) stack1

  pub turned-beyond : Beyond W W1 base0 g.hi0
  turned-beyond = top-beyond base0 g.hi0 bounds same1 turned-within.long

  -- the same list, further on
  going_on : {w' : Walk} {s' : State g.κ} {rest' : Forest} → SameList w w'
      → Holds g.κ W1 (w.list.owner ∷ g.going.X) g.going.lo g.going.hi w' s' rest'
      → work g.κ g.s g.rest ≡ work g.κ s' rest' → Room W1 w'.list rest'
      → Going g.κ g.classes W1 base0 g.hi0 w' g.S s' rest'
  going_on {w'} {s'} {rest'} l v e room =
      record {
        X = g.going.X;
        lo = g.going.lo;
        hi = g.going.hi;
        stack = stack_of l;
        holds = subst (λ (x : ℕ). Holds g.κ W1 (x ∷ g.going.X) g.going.lo g.going.hi w' s' rest') (sym l.owner) v;
        same = l.classes ∙ g.going.same;
        room = room;
        full = subst (λ (x : Result). Full g.κ g.S x) e g.going.full;
        some = g.going.some;
        small = omega (arith, g.going.small, turned-within.long);
      }

-- ---- where the turn leads to

abbrev Result-of : {W : List ℕ} {w : Walk} {base0 : ℕ} → CanAdvance W w base0 → Result
Result-of g = unwound g.κ g.S (work g.κ g.s g.rest)

abbrev Turns-of : {W : List ℕ} {w : Walk} {base0 : ℕ} → CanAdvance W w base0 → ℕ
Turns-of g = turns_left g.κ g.s g.rest + turns_below g.κ g.S

module _ {W W1 : List ℕ} {w : Walk} {base0 : ℕ} (g : CanAdvance W w base0) where
  next-on : (w' : Walk) → Turned W w (Ok (On w')) W1 → NextTo g.κ g.classes W1 base0 g.hi0 (Result-of g) (Turns-of g) (Ok (Onward w'))
  next-on w' turned = go (turned-to g (Ok (On w')) turned)
    where
      go : TurnTo g.κ W1 (w.list.owner ∷ g.going.X) g.going.lo g.going.hi w g.s g.rest (Ok (On w'))
          → NextTo g.κ g.classes W1 base0 g.hi0 (Result-of g) (Turns-of g) (Ok (Onward w'))
      go (goes l v e few less falls) =
          let room = g.going.room in
          let long = (turned-within g (Ok (On w')) turned).long in
          NextTo.goes (going_on g (Ok (On w')) turned l v e (omega (arith, l.base, l.len))) (ap (unwound g.κ g.S) e) (omega arith)

  next-fail : (f : Failure) → Turned W w (Err f) W1 → NextTo g.κ g.classes W1 base0 g.hi0 (Result-of g) (Turns-of g) (Err f)
  next-fail f turned = go (turned-to g (Err f) turned)
    where
      go : TurnTo g.κ W1 (w.list.owner ∷ g.going.X) g.going.lo g.going.hi w g.s g.rest (Err f)
          → NextTo g.κ g.classes W1 base0 g.hi0 (Result-of g) (Turns-of g) (Err f)
      go (fails {ms = ms} t e) = NextTo.fails (ap (unwound g.κ g.S) e ∙ unwound-fail g.κ g.S ms) t

  -- ---- an item is entered

  module _ (w' : Walk) (item : ℕ) (turned : Turned W w (Ok (Enter w' item)) W1) where
    Entering : Type 0
    Entering = TurnTo g.κ W1 (w.list.owner ∷ g.going.X) g.going.lo g.going.hi w g.s g.rest (Ok (Enter w' item))

    descends : Entering → CanDescend W1 w' item
    unfolding Entering
    descends
        (enters {l = l} {n = n} {m = m} {t = t} {u = u} {rest' = rest'} {k = k} {cs = cs} same v tree some bg e few near less waiting) =
        let room = g.going.room in
        let long = (turned-within g (Ok (Enter w' item)) turned).long in
        let owner = sym same.owner in
        let counts = count-size rest' in
        record {
          κ = g.κ;
          classes = g.classes;
          base0 = base0;
          hi0 = g.hi0;
          X = g.going.X;
          lo = g.going.lo;
          l = l;
          n = n;
          m = m;
          hi = g.going.hi;
          S = g.S;
          t = t;
          u = u;
          k = k;
          cs = cs;
          rest = rest';
          stack = stack_of g (Ok (Enter w' item)) turned same;
          waiting = subst (λ (x : ℕ). Waits g.κ W1 (x ∷ g.going.X) g.going.lo l m g.going.hi w' t rest') owner v;
          same = same.classes ∙ g.going.same;
          tree = subst (λ (x : ℕ). RepT W1 (x ∷ g.going.X) item n m k cs) owner tree;
          some = some;
          full = subst (λ (x : Result). Full g.κ g.S x) e g.going.full;
          begins = subst (λ (x : ℕ). Begins W1 (item ∷ x ∷ g.going.X) l n cs g.κ w'.pass u) owner bg;
          room = omega (arith, same.base, same.len);
          inner = omega (arith, same.base, same.len);
          small = omega (arith, g.going.small);
        }

    pub advance-can-descend : CanDescend W1 w' item
    advance-can-descend = unfold Entering in descends (turned-to g (Ok (Enter w' item)) turned)

    module _ (w2 : Walk) (W2 : List ℕ) (inner : Descended W1 w' item w2 W2) where
      next-enter : NextTo g.κ g.classes W2 base0 g.hi0 (Result-of g) (Turns-of g) (Ok (Onward w2))
      unfolding Entering descends unwound
      next-enter = go (turned-to g (Ok (Enter w' item)) turned)
        where
          go : Entering → NextTo g.κ g.classes W2 base0 g.hi0 (Result-of g) (Turns-of g) (Ok (Onward w2))
          go (enters {t = t} {u = u} {rest' = rest'} {k = k} {cs = cs} same v tree some bg e few near less waiting) =
              let sizes = reading-size g.κ cs in
              NextTo.goes (inner.going (descends (enters same v tree some bg e few near less waiting))) (ap (unwound g.κ g.S) e)
              (omega arith)

      beyond-enter : Beyond W W2 base0 g.hi0
      unfolding Entering descends
      beyond-enter = go (turned-to g (Ok (Enter w' item)) turned)
        where
          go : Entering → Beyond W W2 base0 g.hi0
          go (enters same v tree some bg e few near less waiting) =
              beyond-then (turned-beyond g (Ok (Enter w' item)) turned)
              (inner.beyond (descends (enters same v tree some bg e few near less waiting)))

  -- ---- every item is done

  module _ (w' : Walk) (turned : Turned W w (Ok (Over w')) W1) where
    Ending : Type 0
    Ending = TurnTo g.κ W1 (w.list.owner ∷ g.going.X) g.going.lo g.going.hi w g.s g.rest (Ok (Over w'))

    closes : Ending → CanClose W1 w' base0
    unfolding Ending count size
    closes (ends {s' = s'} same v idle e) =
        let within = v.sides.within in
        record {
          κ = g.κ;
          classes = g.classes;
          hi0 = g.hi0;
          S = g.S;
          s = s';
          going = going_on g (Ok (Over w')) turned same v e (omega arith);
          idle = idle;
        }

    pub advance-can-close : CanClose W1 w' base0
    advance-can-close = unfold Ending in closes (turned-to g (Ok (Over w')) turned)

    module _ (x : Returned Next Failure) (W2 : List ℕ) (closed : Closed W1 w' base0 x W2) where
      next-close : NextTo g.κ g.classes W2 base0 g.hi0 (Result-of g) (Turns-of g) x
      unfolding Ending closes
      next-close = go (turned-to g (Ok (Over w')) turned)
        where
          go : Ending → NextTo g.κ g.classes W2 base0 g.hi0 (Result-of g) (Turns-of g) x
          go (ends {s' = s'} same v idle e) =
              next_more (omega arith)
              (subst (λ (y : Result). NextTo g.κ g.classes W2 base0 g.hi0 y (turns_below g.κ g.S) x)
              (sym (ap (unwound g.κ g.S) e))
              (closed.to (closes (ends same v idle e))))

      beyond-close : Beyond W W2 base0 g.hi0
      unfolding Ending closes
      beyond-close = go (turned-to g (Ok (Over w')) turned)
        where
          go : Ending → Beyond W W2 base0 g.hi0
          go (ends same v idle e) = beyond-then (turned-beyond g (Ok (Over w')) turned) (closed.beyond (closes (ends same v idle e)))

-- ---- `advance`

pub turned-at : {W W1 : List ℕ} {w : Walk} (t q : Turn) → t ≡ q → Turned W w (Ok t) W1 → Turned W w (Ok q) W1
turned-at {W} {W1} {w} t q e x = subst (λ (y : Turn). Turned W w (Ok y) W1) e x

pub advanced-on : {W W1 : List ℕ} {w w' : Walk} {base0 : ℕ} → Turned W w (Ok (On w')) W1 → Advanced W w base0 (Ok (Onward w')) W1
advanced-on {w' = w'} t = record { to = λ g. next-on g w' t; beyond = λ g. turned-beyond g (Ok (On w')) t }

pub advanced-fail : {W W1 : List ℕ} {w : Walk} {base0 : ℕ} {f : Failure} → Turned W w (Err f) W1 → Advanced W w base0 (Err f) W1
advanced-fail {f = f} t = record { to = λ g. next-fail g f t; beyond = λ g. turned-beyond g (Err f) t }

pub advanced-enter : {W W1 W2 : List ℕ} {w w' w2 : Walk} {base0 item : ℕ} → Turned W w (Ok (Enter w' item)) W1 → Descended W1 w' item w2 W2
    → Advanced W w base0 (Ok (Onward w2)) W2
advanced-enter {W2 = W2} {w' = w'} {w2 = w2} {item = item} t d =
    record { to = λ g. next-enter g w' item t w2 W2 d; beyond = λ g. beyond-enter g w' item t w2 W2 d }

pub advanced-close : {W W1 W2 : List ℕ} {w w' : Walk} {base0 : ℕ} {x : Returned Next Failure} → Turned W w (Ok (Over w')) W1 → Closed W1 w' base0 x W2
    → Advanced W w base0 x W2
advanced-close {W2 = W2} {w' = w'} {x = x} t d = record { to = λ g. next-close g w' t x W2 d; beyond = λ g. beyond-close g w' t x W2 d }
