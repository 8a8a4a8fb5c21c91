-- The driver's loop (`run`): the result of what is left to be done is that of the whole pass at every turn, and there are fewer turns left
-- than words.
use Prim.Native.Nat.{ℕ, ◌+◌, ◌≤◌, ◌<◌}
use mathlib.Core.{Path.{◌≡◌, refl, sym, ◌∙◌, subst, subst₂}, Logic.{inl}, List.{List, [], ◌∷◌}}
use native.Mathlib.{Omega.{arith}, Nat.{le_refl}}
use lib.ListN.{length}
use Rattle.molang.specs.{Forest.{Forest}, Message.{Result}, Calls.{array_level}}
use Rattle.molang.specs.Work.{Kind, calls, statements, arrays, unary_minus_and_not, conditional, returns, binary, State, work, begins}
use Rattle.molang.specs.Work.{in_reading, pass, Held, unwound}
use Rattle.molang.proofs.{Trees.{count-size}, Work.{pass-begins, reading-size, reading-count}}
use Rattle.levels.specs.{Passes.{classes_of, waits}, Sides.{Holds}, Turns.{turns_left, afresh}, declared.failure.Failure.{Failure}}
use Rattle.levels.specs.{declared.turns.Pass.{Pass}, declared.turns.Walk.{Walk}}
use Rattle.grouping.specs.Driver.{Stack, bottom, Going, turns_below, Beyond, CanOpen, Opened, CanBegin, Begun, NextTo, CanAdvance}
use Rattle.grouping.specs.{Driver.{Advanced, CanRun, RanTo, done, failed, HasRun}, declared.driver.Next.{Next}}
use Rattle.grouping.specs.declared.driver.Next.TheVariants.{On, Done}
use Rattle.std.specs.Prelude.{Result as Returned, Ok, Err}
use Rattle.grouping.proofs.{StackLaws.{beyond-then}, OutermostLaws.{outermost-taken}}

-- ---- the outermost list begins

pub run-can-open : {W : List ℕ} {base n : ℕ} {p : Pass} → CanRun W base n p → CanOpen W 0 base p
run-can-open g =
    let room = g.room in
    record {
      κ = g.κ;
      X = [];
      lo = 0;
      n = 0;
      hi = g.hi;
      cs = g.F;
      u = begins g.κ g.F;
      runs = g.runs;
      owned = g.list.owned;
      begins = afresh g.unlent (le_refl 0);
      own = g.own;
      below = g.below;
      room = omega (arith, count-size g.F);
      small = g.small;
    }

-- its items stand there already
pub run-can-begin : {W : List ℕ} {base n : ℕ} {p : Pass} → CanRun W base n p → CanBegin W 0 base n p
run-can-begin {W} g = record { before = W; opens = run-can-open g; taken = outermost-taken g.list }

pub run-opened : {W : List ℕ} {base n : ℕ} {p : Pass} {w : Walk} → Begun W 0 base n p w → CanRun W base n p → Opened W 0 base p w W
run-opened begun g = unfold run-can-begin in begun.opened (run-can-begin g)

begins-waits : (κ : Kind) (f : Forest) → waits κ (begins κ f) ≡ 0
unfolding waits begins array_level
begins-waits (calls kind) f = refl
begins-waits statements f = refl
begins-waits arrays f = refl
begins-waits unary_minus_and_not f = refl
begins-waits conditional f = refl
begins-waits returns f = refl
begins-waits (binary ops) f = refl

module _ {W W1 : List ℕ} {base n : ℕ} {p : Pass} {w : Walk} (opened : Opened W 0 base p w W1) where
  run-going : (g : CanRun W base n p)
      → Going g.κ (classes_of w.pass) W1 base g.hi w [] (begins g.κ g.F) (in_reading g.κ g.F)
  unfolding run-can-open
  run-going g =
      let long = opened.long in
      let room = g.room in
      let len = opened.count (run-can-open g) in
      let sizes = reading-size g.κ g.F in
      let counts = reading-count g.κ g.F in
      record {
        X = [];
        lo = 0;
        hi = g.hi;
        stack =
            subst₂ (λ (x : ℕ) (y : ℕ). Stack g.κ (classes_of w.pass) W1 base g.hi [] x 0 g.hi y []) (sym opened.owned)
            (sym opened.based) bottom;
        holds =
            subst (λ (x : ℕ). Holds g.κ W1 (x ∷ []) 0 g.hi w (begins g.κ g.F) (in_reading g.κ g.F)) (sym opened.owned)
            (opened.holds (run-can-open g));
        same = refl;
        room = omega (arith, opened.based);
        full = tt;
        some = g.own;
        small = omega (arith, g.small);
      }

  abbrev run-starts : CanRun W base n p → CanAdvance W1 w base
  run-starts g =
      record {
        κ = g.κ;
        classes = classes_of w.pass;
        hi0 = g.hi;
        S = [];
        s = begins g.κ g.F;
        rest = in_reading g.κ g.F;
        going = run-going g;
      }

  open-beyond : (g : CanRun W base n p) → Beyond W W1 base g.hi
  open-beyond g = record { kept = λ j x y. opened.same j (inl y); long = opened.long }

-- ---- the loop

abbrev pub turns_of : {W : List ℕ} {w : Walk} {base : ℕ} → CanAdvance W w base → ℕ
turns_of g = turns_left g.κ g.s g.rest + turns_below g.κ g.S

abbrev result_of : {W : List ℕ} {w : Walk} {base : ℕ} → CanAdvance W w base → Result
result_of g = unwound g.κ g.S (work g.κ g.s g.rest)

-- what holds at the loop's test, from what held at its beginning
pub record RunAt (W0 : List ℕ) (w0 : Walk) (base : ℕ) (g : CanAdvance W0 w0 base) (W : List ℕ) (w : Walk) (fuel : ℕ) : Type 0 where
  pub S : List (Held g.κ)
  pub s : State g.κ
  pub rest : Forest
  pub going : Going g.κ g.classes W base g.hi0 w S s rest
  pub result : result_of g ≡ unwound g.κ S (work g.κ s rest)
  pub turns : turns_left g.κ s rest + turns_below g.κ S < fuel
  pub beyond : Beyond W0 W base g.hi0

pub record Running (W0 : List ℕ) (w0 : Walk) (base fuel0 : ℕ) (W : List ℕ) (w : Walk) (fuel : ℕ) : Type 0 where
  pub at : (g : CanAdvance W0 w0 base) → turns_of g < fuel0 → RunAt W0 w0 base g W w fuel
  pub start : CanAdvance W0 w0 base
  pub enough : turns_of start < fuel0
  pub long : length W ≡ length W0

run-enough : {W W1 : List ℕ} {base n : ℕ} {p : Pass} {w : Walk} (opened : Opened W 0 base p w W1) (g : CanRun W base n p)
    → turns_of (run-starts opened g) < length W1
run-enough opened g =
    let none = begins-waits g.κ g.F in
    let sizes = reading-size g.κ g.F in
    let room = g.room in
    let own = g.own in
    let below = g.below in
    let long = opened.long in
    omega arith

pub run_holds : {W W1 : List ℕ} {base n : ℕ} {p : Pass} {w : Walk} → Opened W 0 base p w W1 → CanRun W base n p → (fuel : ℕ)
    → fuel ≡ length W1 → Running W1 w base (length W1) W1 w fuel
run_holds opened g fuel f =
    record {
      at = λ a e. record {
        S = a.S;
        s = a.s;
        rest = a.rest;
        going = a.going;
        result = refl;
        turns = omega (arith, e, f);
        beyond = record { kept = λ j x y. refl; long = refl };
      };
      start = run-starts opened g;
      enough = run-enough opened g;
      long = refl;
    }

-- what a turn asks
pub run-advances : {W0 : List ℕ} {w0 : Walk} {base : ℕ} {W : List ℕ} {w : Walk} {fuel : ℕ} (g : CanAdvance W0 w0 base)
    → RunAt W0 w0 base g W w fuel → CanAdvance W w base
run-advances g v = record { κ = g.κ; classes = g.classes; hi0 = g.hi0; S = v.S; s = v.s; rest = v.rest; going = v.going }

pub running-advances : {W0 : List ℕ} {w0 : Walk} {base fuel0 : ℕ} {W : List ℕ} {w : Walk} {fuel : ℕ} → Running W0 w0 base fuel0 W w fuel
    → CanAdvance W w base
running-advances v = run-advances v.start (v.at v.start v.enough)

module _ {W0 : List ℕ} {w0 : Walk} {base : ℕ} {W W' : List ℕ} {w : Walk} {fuel : ℕ} (x : Returned Next Failure) (adv : Advanced W w base x W') where
  run-next : (g : CanAdvance W0 w0 base) (v : RunAt W0 w0 base g W w fuel)
      → NextTo g.κ g.classes W' base g.hi0 (result_of g) (turns_left g.κ v.s v.rest + turns_below g.κ v.S) x
  unfolding run-advances
  run-next g v =
      subst (λ (r : Result). NextTo g.κ g.classes W' base g.hi0 r (turns_left g.κ v.s v.rest + turns_below g.κ v.S) x)
      (sym v.result) (adv.to (run-advances g v))

  run-beyond : (g : CanAdvance W0 w0 base) → RunAt W0 w0 base g W w fuel → Beyond W0 W' base g.hi0
  run-beyond g v = unfold run-advances in beyond-then v.beyond (adv.beyond (run-advances g v))

run-goes : {W0 : List ℕ} {w0 : Walk} {base : ℕ} {W' : List ℕ} {w' : Walk} {fuel fuel' turns : ℕ} (g : CanAdvance W0 w0 base) → turns < fuel
    → fuel' + 1 ≡ fuel → Beyond W0 W' base g.hi0
    → NextTo g.κ g.classes W' base g.hi0 (result_of g) turns (Ok (On w')) → RunAt W0 w0 base g W' w' fuel'
run-goes g t e b (NextTo.goes {S' = S} {s' = s} {rest' = rest} go r less) =
    record { S = S; s = s; rest = rest; going = go; result = r; turns = omega arith; beyond = b }

pub run-again : {W0 : List ℕ} {w0 : Walk} {base fuel0 : ℕ} {W W' : List ℕ} {w : Walk} {fuel fuel' : ℕ} (x : Next) (w' : Walk)
    → Running W0 w0 base fuel0 W w fuel
    → Advanced W w base (Ok x) W' → x ≡ On w' → fuel' + 1 ≡ fuel → length W' ≡ length W → Running W0 w0 base fuel0 W' w' fuel'
run-again {W0} {w0} {base} {W = W} {W'} {w} x w' v adv ex ef long =
    let adv' : Advanced W w base (Ok (On w')) W' = subst (λ (y : Next). Advanced W w base (Ok y) W') ex adv in
    record {
      at = λ g e. let a = v.at g e in run-goes g a.turns ef (run-beyond (Ok (On w')) adv' g a) (run-next (Ok (On w')) adv' g a);
      start = v.start;
      enough = v.enough;
      long = long ∙ v.long;
    }

-- ---- the end of the pass

module _ {W W0 : List ℕ} {base n : ℕ} {p : Pass} {w0 : Walk} (opened : Opened W 0 base p w0 W0) {Z Z' : List ℕ} {w : Walk} {fuel : ℕ}
    (v : Running W0 w0 base (length W0) Z w fuel) (x : Returned Next Failure) (adv : Advanced Z w base x Z') where
  ran-at : (g : CanRun W base n p) → RunAt W0 w0 base (run-starts opened g) Z w fuel
  ran-at g = v.at (run-starts opened g) (run-enough opened g)

  whole : (g : CanRun W base n p) → pass g.κ g.F ≡ result_of (run-starts opened g)
  whole g = unfold unwound in pass-begins g.κ g.F

  ran-beyond : (g : CanRun W base n p) → Beyond W Z' base g.hi
  ran-beyond g = beyond-then (open-beyond opened g) (run-beyond x adv (run-starts opened g) (ran-at g))

  ran-next : (g : CanRun W base n p)
      → NextTo g.κ (classes_of w0.pass) Z' base g.hi (pass g.κ g.F)
      (turns_left g.κ (ran-at g).s (ran-at g).rest + turns_below g.κ (ran-at g).S) x
  ran-next g =
      subst
      (λ (r : Result). NextTo g.κ (classes_of w0.pass) Z' base g.hi r
      (turns_left g.κ (ran-at g).s (ran-at g).rest + turns_below g.κ (ran-at g).S) x)
      (sym (whole g))
      (run-next x adv (run-starts opened g) (ran-at g))

done-to : {κ : Kind} {classes : ℕ} {Z' : List ℕ} {base hi turns left : ℕ} {r : Result} → NextTo κ classes Z' base hi r turns (Ok (Done left))
    → RanTo Z' base hi r (Ok left)
done-to (NextTo.ends q v) = done q v

failed-to : {κ : Kind} {classes : ℕ} {Z' : List ℕ} {base hi turns : ℕ} {r : Result} {f : Failure}
    → NextTo κ classes Z' base hi r turns (Err f) → RanTo Z' base hi r (Err f)
failed-to (NextTo.fails q t) = failed q t

pub ran-done : {W W0 Z Z' : List ℕ} {base n fuel : ℕ} {p : Pass} {w0 w : Walk} → Opened W 0 base p w0 W0
    → Running W0 w0 base (length W0) Z w fuel → (x : Next) → Advanced Z w base (Ok x) Z'
    → (left : ℕ) → x ≡ Done left → HasRun W base n p (Ok left) Z'
ran-done {Z = Z} {Z'} {base} {w = w} opened v x adv left e =
    let adv' : Advanced Z w base (Ok (Done left)) Z' = subst (λ (y : Next). Advanced Z w base (Ok y) Z') e adv in
    record { to = λ g. done-to (ran-next opened v (Ok (Done left)) adv' g); beyond = ran-beyond opened v (Ok (Done left)) adv' }

pub ran-failed : {W W0 Z Z' : List ℕ} {base n fuel : ℕ} {p : Pass} {w0 w : Walk} → Opened W 0 base p w0 W0
    → Running W0 w0 base (length W0) Z w fuel → (f : Failure) → Advanced Z w base (Err f) Z' → HasRun W base n p (Err f) Z'
ran-failed opened v f adv =
    record { to = λ g. failed-to (ran-next opened v (Err f) adv g); beyond = ran-beyond opened v (Err f) adv }

-- the loop does not run out of turns
pub run-never : {W0 : List ℕ} {w0 : Walk} {base fuel0 : ℕ} {Z : List ℕ} {w : Walk} {fuel : ℕ} → Running W0 w0 base fuel0 Z w fuel → fuel ≤ 0
    → ⊥
run-never v h = omega (arith, (v.at v.start v.enough).turns)
