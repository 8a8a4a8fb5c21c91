-- Calls after each other, seen through the two lists.
use Prim.Native.Nat.{ℕ, ◌+◌, ◌/◌, ◌%◌, ◌≤◌}
use native.Mathlib.Omega.{arith}
use mathlib.Core.{Path.{◌≡◌, refl, ap, sym, subst, ◌∙◌}, Bool.{Bool, true, false, ◌&&◌}, List.{List}}
use lib.{Dec.{eqb, leb}, ListN.{length, drop, length-drop}}
use borrow.Author.Tests.{eqb-true}
use Rattle.std.specs.Prelude.{Option, Some, None}
use Rattle.scan.specs.{declared.stack.State.{State}, declared.steps.Turn.{Turn}}
use Rattle.scan.specs.declared.steps.Turn.TheVariants.{Done}
use Rattle.scan.specs.Views.{View, top_word, popped, laid, taken, settled, Based}
use Rattle.scan.specs.Turns.{Turning, operator_turn, wait_turn, question_turn, end_turn}
use Rattle.scan.specs.States.{stack_of, view_of, Sound, HasRoom, HasTwo, free_of, StandsFree, Becomes, Turns, wants, haves, ends, stops}
use Rattle.scan.proofs.SettleLaws.{depth-of, out_of, stack-long, tail-long, based-settled, based-two}

-- One call after another.
pub then : (f : View → View) {W W₁ W₂ : List ℕ} {s t : State} {v : View} → Becomes W W₁ s v → Becomes W₁ W₂ t (f (view_of W₁ s))
    → Becomes W W₂ t (f v)
then f a b = record { sound = b.sound; same = b.same ∙ ap f a.same; long = b.long ∙ a.long }

-- The walk gives up where it is.
pub given_up : {W : List ℕ} {a : Turning} → Turns W W None a
given_up = stops refl

turns-long : {W W₁ W₂ : List ℕ} {t : Option Turn} {a : Turning} → length W₁ ≡ length W → Turns W₁ W₂ t a → Turns W W₂ t a
turns-long e (wants b) = wants (record { sound = b.sound; same = b.same; long = b.long ∙ e })
turns-long e (haves b) = haves (record { sound = b.sound; same = b.same; long = b.long ∙ e })
turns-long e (ends i r l) = ends i r (l ∙ e)
turns-long e (stops l) = stops (l ∙ e)

pub then-turn : (f : View → Turning) {W W₁ W₂ : List ℕ} {s : State} {t : Option Turn} {v : View} → Becomes W W₁ s v
    → Turns W₁ W₂ t (f (view_of W₁ s)) → Turns W W₂ t (f v)
then-turn f {W₁} {W₂} {t} a b = turns-long a.long (subst (λ (u : View). Turns W₁ W₂ t (f u)) a.same b)

-- The top is that of what the state is.
pub top_of : {W W₁ : List ℕ} {s : State} {v : View} → Becomes W W₁ s v → s.top ≡ top_word v.stack
unfolding view_of
top_of a = a.sound.top ∙ ap (λ (u : View). top_word u.stack) a.same

-- After a settling the lowest word is the same, and as many words are free.
pub settled-stands : {W W₁ : List ℕ} {s₀ s : State} (from n : ℕ) → 262144 ≤ from → StandsFree W s₀ n
    → Becomes W W₁ s (settled from (view_of W s₀)) → free_of s ≡ free_of s₀
    → StandsFree W₁ s n
unfolding settled view_of
settled-stands {W} {s₀} from n l g a f =
    let r = g.room in
    record {
      sound = a.sound;
      based = subst Based (sym (ap (λ (u : View). u.stack) a.same)) (based-settled from l (stack_of W s₀.depth) (drop s₀.out W)
          g.based);
      room = omega (arith, r, f);
    }

-- If another word is on top than that of the whole list, two wait.
pub two-stand : {W : List ℕ} {s : State} {n : ℕ} → StandsFree W s n → (s.top / 32768 ≡ 7 → ⊥) → HasTwo s
two-stand {W} {s} g n =
    let t = g.sound.top in
    let l = based-two g.based (λ e. n (ap (λ (w : ℕ). w / 32768) t ∙ e)) in
    let d = stack-long W s.depth in
    omega (arith, l, d)

module _ {W W₁ : List ℕ} {s : State} (v : View) (at word from : ℕ) (a : Becomes W W₁ s (settled from v)) (b : Bool)
    (e : b ≡ (eqb (s.top / 67108864 % 2) 1 && leb from 671088640)) where
  told : (eqb (top_word (settled from v).stack / 67108864 % 2) 1 && leb from 671088640) ≡ b
  told = ap (λ (w : ℕ). eqb (w / 67108864 % 2) 1 && leb from 671088640) (sym (top_of a)) ∙ sym e

  pub operator-waits : b ≡ false → {W₂ : List ℕ} {t : Option Turn} → Turns W₁ W₂ t (wait_turn at word (view_of W₁ s))
      → Turns W W₂ t (operator_turn at word from v)
  unfolding operator_turn wait_turn
  operator-waits n w = rw (told ∙ n, operator_turn) (then-turn (wait_turn at word) a w)

-- ---- a `?`

module _ {W W₁ : List ℕ} {s : State} (v : View) (at : ℕ) (a : Becomes W W₁ s (settled 805306368 v)) (b : Bool)
    (e : b ≡ eqb (s.top / 67108864 % 2) 1) where
  tells : eqb (top_word (settled 805306368 v).stack / 67108864 % 2) 1 ≡ b
  tells = ap (λ (w : ℕ). eqb (w / 67108864 % 2) 1) (sym (top_of a)) ∙ sym e

  pub question-takes : b ≡ true → {W₂ W₃ : List ℕ} {s₂ : State} {t : Option Turn} → Becomes W₁ W₂ s₂ (taken (view_of W₁ s))
      → Turns W₂ W₃ t (wait_turn at 805830656 (view_of W₂ s₂)) → Turns W W₃ t (question_turn at v)
  unfolding question_turn
  question-takes y d w = rw (tells ∙ y, question_turn) (then-turn (wait_turn at 805830656) (then taken a d) w)

  pub question-asks : b ≡ false → {W₂ : List ℕ} {t : Option Turn} → Turns W₁ W₂ t (wait_turn at 805830656 (view_of W₁ s))
      → Turns W W₂ t (question_turn at v)
  unfolding question_turn
  question-asks n w = rw (tells ∙ n, question_turn) (then-turn (wait_turn at 805830656) a w)

-- A `:` on top is another word than that of the whole list.
pub pair-above : (w : ℕ) → eqb (w / 67108864 % 2) 1 ≡ true → w / 32768 ≡ 7 → ⊥
pair-above w e z = let n = eqb-true (w / 67108864 % 2) 1 e in omega (arith, n, z)

-- ---- the end

pub end-done : {W W₁ : List ℕ} {s : State} (v : View) → Becomes W W₁ s (settled 268435456 v) → s.top / 32768 ≡ 7
    → Turns W W₁ (Some (Done s.out)) (end_turn v)
unfolding end_turn view_of
end-done v a t =
    let e : eqb (top_word (settled 268435456 v).stack / 32768) 7 ≡ true = rw (← top_of a, t) refl in
    rw (e, end_turn) (ends a.sound.within (ap (λ (u : View). u.records) a.same) a.long)

-- ---- `take`, `lay`

module _ (W : List ℕ) (s : State) where
  pub lay-deep : (w : ℕ) {W₁ : List ℕ} {s₁ : State} → Becomes W W₁ s₁ (laid w (view_of W s)) → s₁.depth ≡ s.depth
  unfolding laid view_of
  lay-deep w a = depth-of a ∙ stack-long W s.depth

  pub takes : Sound W s → {W₁ : List ℕ} {s₁ s₂ : State} → Becomes W W₁ s₁ (laid (s.top % 67108864) (view_of W s))
      → Becomes W₁ W₁ s₂ (popped (view_of W₁ s₁))
      → Becomes W W₁ s₂ (taken (view_of W s))
  unfolding taken view_of
  takes g {W₁} {s₂} a b = subst (λ (w : ℕ). Becomes W W₁ s₂ (popped (laid (w % 67108864) (view_of W s)))) g.top (then popped a b)

  pub take-free : Sound W s → HasRoom s → HasTwo s → {W₁ : List ℕ} {s₂ : State} → Becomes W W₁ s₂ (taken (view_of W s))
      → free_of s₂ ≡ free_of s
  unfolding taken view_of popped laid
  take-free g room two b =
      let d = depth-of b ∙ tail-long (stack_of W s.depth) in
      let e = stack-long W s.depth in
      let o = out_of b in
      let n = length-drop s.out W in
      let l = g.within in
      omega (arith, d, e, o, n, l, room, two)

  pub lay-free : (w : ℕ) → Sound W s → {W₁ : List ℕ} {s₁ : State} → Becomes W W₁ s₁ (laid w (view_of W s)) → s₁.out + 1 ≡ s.out
  unfolding laid view_of
  lay-free w g a =
      let o = out_of a in
      let n = length-drop s.out W in
      let l = g.within in
      omega (arith, o, n, l)

  -- After a record a word less is free.
  pub lay-stands : (w n : ℕ) → StandsFree W s (n + 1) → {W₁ : List ℕ} {s₁ : State} → Becomes W W₁ s₁ (laid w (view_of W s)) → StandsFree W₁ s₁ n
  unfolding laid view_of
  lay-stands w n g a =
      let d = lay-deep w a in
      let o = lay-free w g.sound a in
      let r = g.room in
      record {
        sound = a.sound;
        based = subst Based (sym (ap (λ (u : View). u.stack) a.same)) g.based;
        room = omega
            (arith, d, o, r);
      }
