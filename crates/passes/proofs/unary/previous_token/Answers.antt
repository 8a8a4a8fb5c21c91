-- `previous_token`: the end, a token or a node with one below it (UnaryRight).
use mathlib.Core.Path.{refl, sym, ◌∙◌}
use native.Mathlib.Omega.{arith}
use Rattle.passes.proofs.UnaryRight.{unary-test, seek-back-start, seek-back-in, seek-back-turn, sought-back-leaf}
use Rattle.passes.proofs.UnaryRight.{sought-back-tree, sought-back-none}
use Rattle.passes.proofs.unary.previous_token.Goals as goal

pub classes_of-requires : goal.classes_of-requires
classes_of-requires c =
    (seek-back-in c.loop-read.invariant c.requires c.loop-read-test.true).1

pub is_leaf-requires : goal.is_leaf-requires
is_leaf-requires c =
    (seek-back-in c.loop-read.invariant c.requires c.loop-read-test.true).1

pub returns-then-is_leaf : goal.returns-then-is_leaf
returns-then-is_leaf c =
    sought-back-leaf c.loop-read.invariant c.loop-read-test.true
    (unary-test c.classes_of.ensures c.intersects.ensures ∙ c.if-intersects.true)
    (sym c.is_leaf.ensures ∙ c.if-is_leaf.true) c.moved-rest.result c.moved-rest.ensures

pub returns-then-intersects : goal.returns-then-intersects
returns-then-intersects c =
    sought-back-tree c.loop-read.invariant c.loop-read-test.true
    (sym c.is_leaf.ensures ∙ c.if-is_leaf.false) c.moved-rest.result c.moved-rest.ensures

pub loop-read-init : goal.loop-read-init
loop-read-init c =
    seek-back-start c.args.list c.requires

pub loop-read-preserved : goal.loop-read-preserved
loop-read-preserved c =
    seek-back-turn c.loop-read.invariant _ c.loop-read-test.true
    (unary-test c.classes_of.ensures c.intersects.ensures ∙ c.if-intersects.false) refl

pub returns : goal.returns
returns c =
    sought-back-none c.loop-read.invariant (omega (arith, c.loop-read-test.false)) c.moved.result c.moved.ensures
