-- A turn of the code takes the walk on: to where an operand is wanted or has been read, or to its end.
use Prim.Native.Nat.{ℕ, ◌+◌, ◌%◌, ◌<◌}
use native.Mathlib.Omega.{arith}
use mathlib.Core.{Path.{◌≡◌, ap, sym, subst, ◌∙◌}, List.{List}}
use lib.ListN.{length}
use Rattle.std.specs.Prelude.{Option, Some, None}
use Rattle.ops.specs.declared.sets.OpSet.{OpSet}
use Rattle.scan.specs.{declared.stack.State.{State}, declared.steps.Turn.{Turn}}
use Rattle.scan.specs.{declared.steps.Turn.TheVariants.{Want, Have, Done}, Views.{View, Based}}
use Rattle.scan.specs.Turns.{Turning, want, have, done, gives_up, have_turn, want_turn, turned_once, Walks, goes, start}
use Rattle.scan.specs.States.{view_of, Becomes, Turns, wants, haves, ends, stops, given, UpTo, CanMakeTurn, Goes}
use Rattle.scan.specs.Tables.{HasOpeners}
use Rattle.scan.specs.Scanning.{ComesToEnd, stopped, reached, HasGone}
use Rattle.scan.proofs.FitLaws.{Fit, Fits, at-want, at_have, have-fits, want-fits}

-- How many turns may follow: one for each token that is left, and one at the list's start.
abbrev pub left_of : Turn → ℕ
left_of (Want t) = t.left + 1
left_of (Have t) = t.left + 1
left_of (Done n) = 0

-- The walk came to a turn: it can go on from there; or it is at the end, and the records from a word on are its own.
pub data CameTo (list table : List ℕ) (used : OpSet) (W : List ℕ) : Turn → Type 0 where
  to-want : {t : State} → Goes list table used want W t → CameTo list table used W (Want t)
  to-have : {t : State} → Goes list table used have W t → CameTo list table used W (Have t)
  to_end : {n : ℕ} → ComesToEnd list table used W n → CameTo list table used W (Done n)

-- The same in words that are as many as W₀; and after a turn from a place.
pub record Walking (list table : List ℕ) (used : OpSet) (W₀ W : List ℕ) (t : Turn) : Type 0 where
  pub came : CameTo list table used W t
  pub long : length W ≡ length W₀

pub record WentOn (list table : List ℕ) (used : OpSet) (left : ℕ) (W W' : List ℕ) (t : Turn) : Type 0 where
  pub walking : Walking list table used W W' t
  pub less : left_of t < left + 1

module _ (list table : List ℕ) (used : OpSet) (W : List ℕ) (s : State) where
  can-go : {W' : List ℕ} {t : State} {v : View} → UpTo list s.left → Becomes W W' t v → Fit s.left v
      → CanMakeTurn list W' t × (t.left < s.left)
  unfolding view_of
  can-go {W'} {t} u b f =
      let e = ap (λ (x : View). x.left) b.same in
      let w = u.within in
      let p = f.place in
      let m = f.less in (
        record {
          sound = b.sound;
          based = subst Based (sym (ap (λ (x : View). x.stack) b.same)) f.based;
          place = record { place = ap (λ (n : ℕ). n % 5) e ∙ p; within = omega (arith, e, w, m) };
        },
        omega (arith, e, m),
      )

  on : (answer : View → Turning) → Goes list table used answer W s → {W' : List ℕ} {t : Turn} (a : Turning)
      → Walks (given list table used) (want (start (length list))) a
      → Fits s.left a → Turns W W' (Some t) a → WentOn list table used s.left W W' t
  on answer g (want v) w (at-want f) (wants b) =
      let c = can-go g.can.place b f in
      let n = c.1 in
      let to : Goes list table used want _ _ =
      record {
        can = c.0;
        walks = subst (λ (u : View). Walks (given list table used) (want (start (length list))) (want u))
            (sym b.same) w;
      }
      in
      record { walking = record { came = to-want to; long = b.long }; less = omega (arith, n) }
  on answer g (have v) w (at_have f) (haves b) =
      let c = can-go g.can.place b f in
      let n = c.1 in
      let to : Goes list table used have _ _ =
      record {
        can = c.0;
        walks = subst (λ (u : View). Walks (given list table used) (want (start (length list))) (have u))
            (sym b.same) w;
      }
      in
      record { walking = record { came = to-have to; long = b.long }; less = omega (arith, n) }
  on answer g (done v) w f (ends i r l) =
      record {
        walking = record { came = to_end (record { view = v; walks = w; within = i; records = r }); long = l };
        less = omega arith;
      }
  on answer g gives_up w f x = elim x [ ]

  have-on : HasOpeners table → Goes list table used have W s → {W' : List ℕ} {t : Turn} → Turns W W' (Some t) (have_turn (given list table used) (view_of W s))
      → WentOn list table used s.left W W' t
  unfolding turned_once view_of
  have-on o g h = on have g _ (goes g.walks) (have-fits (given list table used) o (view_of W s) g.can.based g.can.place.place) h

  want-on : Goes list table used want W s → {W' : List ℕ} {t : Turn} → Turns W W' (Some t) (want_turn (given list table used) (view_of W s))
      → WentOn list table used s.left W W' t
  unfolding turned_once view_of
  want-on g h = on want g _ (goes g.walks) (want-fits (given list table used) (view_of W s) g.can.based g.can.place.place) h

turn-long : {W W' : List ℕ} {r : Option Turn} {a : Turning} → Turns W W' r a → length W' ≡ length W
turn-long (wants b) = b.long
turn-long (haves b) = b.long
turn-long (ends i r l) = l
turn-long (stops l) = l

-- ---- the loop's steps: where it came to, and what a turn from there does

module _ {list table : List ℕ} {used : OpSet} {W : List ℕ} where
  had : {s : State} → CameTo list table used W (Have s) → Goes list table used have W s
  had (to-have g) = g

  wanted : {s : State} → CameTo list table used W (Want s) → Goes list table used want W s
  wanted (to-want g) = g

  came-to-end : {n : ℕ} → CameTo list table used W (Done n) → ComesToEnd list table used W n
  came-to-end (to_end e) = e

  module _ {W₀ : List ℕ} {turn : Turn} (w : Walking list table used W₀ W turn) where
    pub wants-at : {s : State} → turn ≡ Want s → Goes list table used want W s
    wants-at e = wanted (subst (CameTo list table used W) e w.came)

    pub has-at : {s : State} → turn ≡ Have s → Goes list table used have W s
    has-at e = had (subst (CameTo list table used W) e w.came)

    pub ended : {n : ℕ} → turn ≡ Done n → HasGone list table used W₀ W (Some n)
    ended e = record { answers = reached (came-to-end (subst (CameTo list table used W) e w.came)); long = w.long }

    pub stopped-there : {W' : List ℕ} {r : Option Turn} {a : Turning} → Turns W W' r a → HasGone list table used W₀ W' None
    stopped-there h = record { answers = stopped; long = turn-long h ∙ w.long }

    module _ {s : State} {W' : List ℕ} {r : Option Turn} {t : Turn} (y : r ≡ Some t) where
      pub want-next : turn ≡ Want s → Turns W W' r (want_turn (given list table used) (view_of W s))
          → Walking list table used W₀ W' t × (left_of t < left_of turn)
      want-next e h =
          let n = want-on list table used W s (wants-at e)
          (subst (λ (x : Option Turn). Turns W W' x (want_turn (given list table used) (view_of W s))) y h) in
          (record { came = n.walking.came; long = n.walking.long ∙ w.long }, rw e n.less)

      pub have-next : HasOpeners table → turn ≡ Have s → Turns W W' r (have_turn (given list table used) (view_of W s))
          → Walking list table used W₀ W' t × (left_of t < left_of turn)
      have-next o e h =
          let n = have-on list table used W s o (has-at e)
          (subst (λ (x : Option Turn). Turns W W' x (have_turn (given list table used) (view_of W s))) y h) in
          (record { came = n.walking.came; long = n.walking.long ∙ w.long }, rw e n.less)
