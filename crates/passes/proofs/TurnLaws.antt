-- A turn by the state of the pass: between two turns no name is lent.
use Prim.Native.Nat.{ℕ}
use mathlib.Core.{Path.{◌≡◌, refl, sym, ap, ◌∙◌, subst}, Logic.{◌≢◌}, Bool.{Bool, true, false}, List.{List}}
use lib.Dec.{eqb}
use borrow.Author.Tests.{eqb-false}
use Rattle.std.specs.Prelude.{Result, None, Some, if◌then◌else◌}
use Rattle.std.proofs.lemmas.Option.{none-some, same_Some}
use Rattle.nodes.specs.declared.frames.List.{List as Items}
use Rattle.levels.specs.{Passes.{walk_of, waiting_of}, Turns.{CanTurn, Turned}, declared.turns.Pass.{Pass}}
use Rattle.levels.specs.declared.turns.Pass.TheVariants.{Calls, MathCalls, Unsplit, Split, Arrays, Unary, Binary, Conditional, Returns}
use Rattle.levels.specs.{declared.failure.Failure.{Failure}, declared.turns.Turn.{Turn}}

-- What a step of a pass gives.
abbrev pub Step : Type 0
Step = Result Turn Failure

pub turn_at : {W : List ℕ} (v : Items) (p q : Pass) → p ≡ q → CanTurn W (walk_of v p) → CanTurn W (walk_of v q)
turn_at {W} v p q e g = subst (λ (x : Pass). CanTurn W (walk_of v x)) e g

pub turned_by : {W W' : List ℕ} {r : Step} (v : Items) (p q : Pass) → p ≡ q → Turned W (walk_of v q) r W' → Turned W (walk_of v p) r W'
turned_by {W} {W'} {r} v p q e t = subst (λ (x : Pass). Turned W (walk_of v x) r W') (sym e) t

pub turn-unlent : {W : List ℕ} (v : Items) (p : Pass) (a b : ℕ) → p ≡ Arrays a b → CanTurn W (walk_of v p) → p ≡ Arrays a 0
turn-unlent v p a b e g = e ∙ ap (λ (x : ℕ). Arrays a x) (turn_at v p (Arrays a b) e g).holds.turning.0

waiting-some : (b : Bool) (x a : ℕ) → Some a ≡ (if b then None else Some x) → (b ≡ false) × (x ≡ a)
waiting-some true x a e = absurd (none-some a (sym e))
waiting-some false x a e = (refl, sym (same_Some a x e))

-- Only an array waits for an index.
pub turn-waiting : {W : List ℕ} (v : Items) (p : Pass) (a : ℕ) → Some a ≡ waiting_of p → CanTurn W (walk_of v p)
    → (p ≡ Arrays a 0) × (a ≢ 0)
unfolding waiting_of
turn-waiting v Calls a e g = absurd (none-some a (sym e))
turn-waiting v MathCalls a e g = absurd (none-some a (sym e))
turn-waiting v Unsplit a e g = absurd (none-some a (sym e))
turn-waiting v (Split done) a e g = absurd (none-some a (sym e))
turn-waiting v (Arrays x y) a e g =
    let w = waiting-some (eqb x 0) x a e in (
      turn-unlent v (Arrays x y) x y refl g ∙ ap (λ (z : ℕ). Arrays z 0) w.1,
      λ z. eqb-false x 0 w.0 (w.1 ∙ z),
    )
turn-waiting v Unary a e g = absurd (none-some a (sym e))
turn-waiting v (Binary classes pending) a e g = absurd (none-some a (sym e))
turn-waiting v (Conditional tokens) a e g = absurd (none-some a (sym e))
turn-waiting v Returns a e g = absurd (none-some a (sym e))
