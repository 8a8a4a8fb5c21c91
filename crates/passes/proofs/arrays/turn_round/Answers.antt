-- `turn_round`: its loop turns the array's chain round (ArrayChain).
use native.Mathlib.Omega.{arith}
use Prim.Native.Nat.{ℕ}
use mathlib.Core.{Path.{ap, ◌∙◌}, Bool.{◌||◌}}
use Rattle.ops.specs.Classes.{bit_at}
use Rattle.passes.proofs.ArrayChain.{round-start, round-in, round-less, round-step, round-done}
use Rattle.passes.proofs.arrays.turn_round.Goals as goal

pub next_of-next-requires : goal.next_of-next-requires
next_of-next-requires c =
    round-in c.loop-s.invariant c.requires c.loop-s-test.true

pub set_next-requires : goal.set_next-requires
set_next-requires c =
    round-in c.loop-s.invariant c.requires c.loop-s-test.true

pub classes_of-requires : goal.classes_of-requires
classes_of-requires c =
    omega (
      arith,
      round-in c.loop-s.invariant c.requires c.loop-s-test.true,
      c.set_next.auto.work,
    )

pub loop-s-smaller : goal.loop-s-smaller
loop-s-smaller c =
    round-less c.loop-s.invariant _ c.requires c.loop-s-test.true
    c.next_of-next.ensures

pub loop-s-preserved : goal.loop-s-preserved
loop-s-preserved c =
    round-step
    c.loop-s.invariant
    _
    _
    c.union-below.result.0
    c.requires
    c.loop-s-test.true
    c.set_next.ensures
    c.next_of-next.ensures
    (λ b. c.union-below.ensures b ∙ ap (λ (w : ℕ). bit_at c.loop-s.below.0 b || bit_at w b) c.classes_of.ensures)

pub shape_of-work : goal.shape_of-work
shape_of-work c =
    (round-done c.loop-s.invariant _ _ c.loop-s-test.false c.set_first.ensures c.set_classes.ensures).long

pub returns : goal.returns
returns c =
    round-done c.loop-s.invariant _ _ c.loop-s-test.false c.set_first.ensures c.set_classes.ensures

pub loop-s-init : goal.loop-s-init
loop-s-init c =
    round-start c.first_of-s.ensures
