-- `next_token`: its loop passes over an item, or stops at one (Seeking).
use Prim.Native.Nat.{ℕ}
use mathlib.Core.Path.{refl, sym, ap, ◌∙◌}
use native.Mathlib.Omega.{arith}
use Rattle.ops.specs.Classes.{shares}
use Rattle.levels.proofs.Seeking.{seek-start, seek-in, seek-turn, sought-leaf, sought-tree, sought-end}
use Rattle.levels.proofs.items.next_token.Goals as goal

pub loop-read-init : goal.loop-read-init
loop-read-init c =
    seek-start c.args.list c.args.classes.0 c.requires

pub bounds-work-base : goal.bounds-work-base
bounds-work-base c =
    (seek-in c.loop-read.invariant c.requires c.loop-read-test.true).0

pub classes_of-requires : goal.classes_of-requires
classes_of-requires c =
    (seek-in c.loop-read.invariant c.requires c.loop-read-test.true).1

pub is_leaf-requires : goal.is_leaf-requires
is_leaf-requires c =
    (seek-in c.loop-read.invariant c.requires c.loop-read-test.true).1

pub returns-then-is_leaf : goal.returns-then-is_leaf
returns-then-is_leaf c =
    let asked = c.intersects.ensures ∙ ap (λ (x : ℕ). shares x c.args.classes.0) c.classes_of.ensures in
    sought-leaf c.loop-read.invariant c.loop-read-test.true (sym asked ∙ c.if-intersects.true)
    (sym c.is_leaf.ensures ∙ c.if-is_leaf.true) c.moved-after.result c.moved-after.ensures

pub returns-then-intersects : goal.returns-then-intersects
returns-then-intersects c =
    let asked = c.intersects.ensures ∙ ap (λ (x : ℕ). shares x c.args.classes.0) c.classes_of.ensures in
    sought-tree c.loop-read.invariant c.loop-read-test.true (sym asked ∙ c.if-intersects.true)
    (sym c.is_leaf.ensures ∙ c.if-is_leaf.false) c.moved-after.result c.moved-after.ensures

pub bounds-work-base-in-loop-read : goal.bounds-work-base-in-loop-read
bounds-work-base-in-loop-read c =
    let r = seek-in c.loop-read.invariant c.requires c.loop-read-test.true in
    omega (arith, c.loop-read.invariant.to)

pub loop-read-preserved : goal.loop-read-preserved
loop-read-preserved c =
    let asked = c.intersects.ensures ∙ ap (λ (x : ℕ). shares x c.args.classes.0) c.classes_of.ensures in
    let r = seek-in c.loop-read.invariant c.requires c.loop-read-test.true in
    seek-turn c.loop-read.invariant _ c.loop-read-test.true (sym asked ∙ c.if-intersects.false) refl (omega (arith, c.loop-read.invariant.to))

pub returns : goal.returns
returns c = sought-end c.loop-read.invariant c.loop-read-test.false c.moved.result c.moved.ensures
