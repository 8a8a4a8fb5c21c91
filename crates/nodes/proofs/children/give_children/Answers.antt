-- `nodes::children::give_children` meets its contract.
use Prim.Native.Nat.{ℕ}
use mathlib.Core.{Path.{refl, ap, ◌∙◌}, Bool.{◌||◌}}
use native.Mathlib.Omega.{arith}
use Rattle.ops.specs.Classes.{bit_at}
use Rattle.nodes.proofs.{Giving.{give-start, give-in, give-step, give-done}}
use Rattle.nodes.proofs.children.give_children.Goals as goal

pub loop-i-init : goal.loop-i-init
loop-i-init c =
    give-start c.requires

pub set_next-requires : goal.set_next-requires
set_next-requires c =
    let v = c.loop-i.invariant in (give-in v.0 v.2 c.loop-i-test.true).1

pub classes_of-requires : goal.classes_of-requires
classes_of-requires c =
    let v = c.loop-i.invariant in
    let b = give-in v.0 v.2 c.loop-i-test.true in
    omega (arith, c.set_next.auto.work)

pub loop-i-preserved : goal.loop-i-preserved
loop-i-preserved c =
    let v = c.loop-i.invariant in
    give-step
    v.0
    v.2
    c.loop-i-test.true
    c.set_next.new.work
    _
    c.union-below.result.0
    refl
    c.set_next.ensures
    (λ b. c.union-below.ensures b ∙ ap (λ (w : ℕ). bit_at c.loop-i.below.0 b || bit_at w b) c.classes_of.ensures)

pub returns : goal.returns
returns c =
    let v = c.loop-i.invariant in
    give-done
    v.0
    v.2
    c.loop-i-test.false
    c.set_first.new.work
    c.set_classes.new.work
    c.set_first.ensures
    c.set_classes.ensures
