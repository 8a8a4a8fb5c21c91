-- A section is laid down, alone or under the name before it, seen through the two lists.
use Prim.Native.Nat.{ℕ, ◌+◌, ◌*◌, ◌/◌, ◌%◌, ◌≤◌}
use native.Mathlib.Omega.{arith}
use mathlib.Core.{Path.{◌≡◌, refl, sym, ◌∙◌}, Bool.{Bool, true, false, ◌&&◌}, List.{List}}
use lib.{Dec.{eqb, ltb}, ListN.{length-drop}}
use borrow.Author.Tests.{eq-eqb, ne_eqb, eqb-true, ltb-true}
use Rattle.std.specs.Prelude.{Option}
use Rattle.scan.specs.{declared.stack.State.{State}, declared.steps.Turn.{Turn}}
use Rattle.scan.specs.Views.{View, top_word, read_from, popped, laid, settled}
use Rattle.scan.specs.Turns.{Walking, have, section_laid, call_laid, is_plain, is_callable, is_empty_call, opened_turn, opener_turn, empty_turn}
use Rattle.scan.specs.States.{stack_of, view_of, Sound, HasTwo, free_of, Becomes, Turns}
use Rattle.scan.proofs.{SettleLaws.{depth-of, out_of, stack-long, tail-long}, TurnLaws.{then}}

-- A test of two parts holds: both hold.
pub first-true : (a b : Bool) → (a && b) ≡ true → a ≡ true
first-true true b e = refl
first-true false b e = e

pub second-true : (a b : Bool) → (a && b) ≡ true → b ≡ true
second-true true b e = e
second-true false b e = absurd (omega (arith, no e))
  where
    no : false ≡ true → ◌≡◌ {A = ℕ} 0 1
    no e = cc

module _ {W : List ℕ} {s s₁ : State} (g : Sound W s) (two : HasTwo s) (a : Becomes W W s₁ (popped (view_of W s))) where
  pub pop-deep : s₁.depth + 1 ≡ s.depth
  unfolding popped view_of
  pop-deep = let d = depth-of a ∙ tail-long (stack_of W s.depth) in let e = stack-long W s.depth in omega (arith, d, e, two)

  pub pop-out : s₁.out ≡ s.out
  unfolding popped view_of
  pop-out = let o = out_of a in let n = length-drop s.out W in let l = g.within in omega (arith, o, n, l)

  -- A section is laid down where its closer waited.
  pub section-laid : (at child : ℕ) {W₁ : List ℕ} {r : State}
      → Becomes W W₁ r (laid (2147483648 + child + s.top % 32768 * 32768 + at) (read_from at (view_of W s₁)))
      → Becomes W W₁ r (section_laid child at (view_of W s))
  unfolding section_laid view_of
  section-laid at child b =
      let c = then (λ (u : View). laid (2147483648 + child + s.top % 32768 * 32768 + at) (read_from at u)) a b in
      rw (← g.top) c

  pub section-free : (at node : ℕ) {W₁ : List ℕ} {r : State} → s.depth ≤ s.out → Becomes W W₁ r (laid node (read_from at (view_of W s₁)))
      → free_of r ≡ free_of s
  unfolding laid read_from view_of
  section-free at node apart b =
      let d = depth-of b ∙ stack-long W s₁.depth in
      let o = out_of b in
      let n = length-drop s₁.out W in
      let w = a.sound.within in
      let p = pop-deep in
      let q = pop-out in
      omega (arith, d, o, n, w, p, q, apart, two)

-- ---- by what stands before the section

module _ (g : Walking) (op at : ℕ) (v : View) {W W' : List ℕ} {t : Option Turn} where
  pub opened-plain : {b : Bool} → b ≡ is_plain g op at → b ≡ true → Turns W W' t (have (section_laid 1073741824 at v))
      → Turns W W' t (opened_turn g op at v)
  unfolding opened_turn
  opened-plain e y h = rw (sym e ∙ y, opened_turn) h

  pub opened-call : {b : Bool} → b ≡ is_plain g op at → b ≡ false → is_callable g at ≡ true
      → Turns W W' t (have (call_laid at (section_laid 1073741824 at v)))
      → Turns W W' t (opened_turn g op at v)
  unfolding opened_turn
  opened-call e n y h = rw (sym e ∙ n, y, opened_turn) h

  pub empty-called : is_empty_call g at v ≡ true → Turns W W' t (have (call_laid at (section_laid 0 at v))) → Turns W W' t (empty_turn g at v)
  unfolding empty_turn
  empty-called y h = rw (y, empty_turn) h

  pub opener-own : (op ≡ 2 → ⊥) → top_word (settled 268435456 v).stack / 32768 ≡ op + 1
      → Turns W W' t (opened_turn g op at (settled 268435456 v))
      → Turns W W' t (opener_turn g op at v)
  unfolding opener_turn
  opener-own n e h = rw (ne_eqb op 2 n, eq-eqb (top_word (settled 268435456 v).stack / 32768) (op + 1) e, opener_turn) h

-- The name before a call stands five words before it.
pub callable-far : (g : Walking) (at : ℕ) → at % 5 ≡ 0 → is_callable g at ≡ true → 5 ≤ at
unfolding is_callable
callable-far g at p y = let z = ltb-true 0 at (first-true (ltb 0 at) _ y) in omega (arith, z, p)

pub empty-far : (g : Walking) (at : ℕ) (v : View) → at % 5 ≡ 0 → is_empty_call g at v ≡ true → (5 ≤ at) × (top_word v.stack / 32768 ≡ 5)
unfolding is_empty_call
empty-far g at v p y =
    let z = ltb-true 0 at (first-true (ltb 0 at) _ (second-true (eqb (top_word v.stack / 32768) 5) _ y)) in
    (omega (arith, z, p), eqb-true (top_word v.stack / 32768) 5 (first-true (eqb (top_word v.stack / 32768) 5) _ y))
