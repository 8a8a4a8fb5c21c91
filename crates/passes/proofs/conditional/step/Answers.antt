-- `step`: the end, or the next node with a `?` or a `:` below it (ConditionalLaws).
use mathlib.Core.Path.{sym, ◌∙◌}
use Rattle.passes.proofs.ConditionalLaws.{can-gather, gather-start, gather-in, gather-passes, gather-counts}
use Rattle.passes.proofs.ConditionalLaws.{conditional-test, step-enter, step-over}
use Rattle.passes.proofs.conditional.step.Goals as goal
use Rattle.passes.proofs.conditional.step.Goals.{then-intersects+else-not-is_leaf, else-intersects}

pub loop-read-init : goal.loop-read-init
loop-read-init c =
    gather-start c.args.list c.args.tokens (can-gather c.requires)

pub classes_of-requires : goal.classes_of-requires
classes_of-requires c =
    (gather-in c.loop-read.invariant (can-gather c.requires) c.loop-read-test.true).1

pub is_leaf-requires : goal.is_leaf-requires
is_leaf-requires c =
    (gather-in c.loop-read.invariant (can-gather c.requires) c.loop-read-test.true).1

pub returns-then-not-is_leaf : goal.returns-then-not-is_leaf
returns-then-not-is_leaf c =
    step-enter c.loop-read.invariant c.loop-read-test.true (sym c.is_leaf.ensures ∙ c.if-not-is_leaf.true)
    c.moved-after.result c.moved-after.ensures c.enter.ensures

pub loop-read-preserved : goal.loop-read-preserved
loop-read-preserved c =
    elim c.if-intersects.branch [
      | then-intersects+else-not-is_leaf w ↦
          rw w.seen-is
          (gather-counts c.loop-read.invariant c.loop-read-test.true
          (conditional-test c.classes_of.ensures c.intersects.ensures ∙ w.if-intersects.true)
          (sym w.is_leaf.ensures ∙ w.if-not-is_leaf.false))
      | else-intersects w ↦
          rw w.seen-is
          (gather-passes c.loop-read.invariant c.loop-read-test.true
          (conditional-test c.classes_of.ensures c.intersects.ensures ∙ w.if-intersects.false))
    ]

pub returns : goal.returns
returns c =
    step-over c.loop-read.invariant c.loop-read-test.false c.moved.result c.moved.ensures c.over.ensures
