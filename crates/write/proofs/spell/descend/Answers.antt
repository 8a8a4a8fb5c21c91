-- `write::spell::descend` meets its contract. The loop's invariant is that it stands at one of the first children; the measure is the words
-- that are left. Assumes nothing.
use mathlib.Core.Path.{sym, ◌∙◌}
use native.Mathlib.Omega.{arith}
use Rattle.write.specs.{Reading.{children_at}, Spine.{has_pair, the_root, first_child}}
use Rattle.write.proofs.SpineLaws.{opens-with, spine-long, spine-longer, spine-front, front-few}
use Rattle.write.proofs.spell.descend.Goals as goal

pub front_at-front-requires : goal.front_at-front-requires
front_at-front-requires c =
    spine-longer c.requires c.loop-children.invariant.0 (λ e. c.loop-children-test.true (c.loop-children.invariant.1 ∙ e))

pub overflow_add-front : goal.overflow_add-front
overflow_add-front c =
    let words = c.args.words.now in
    let few = front-few (children_at words c.loop-children.node) (has_pair words c.loop-children.node) in
    omega (arith, c.well_formed.0, c.front_at-front.ensures, few, spine-front c.loop-children.invariant.0, spine-long c.requires c.loop-children.invariant.0)

pub overflow_add-node : goal.overflow_add-node
overflow_add-node c =
    omega (arith, c.well_formed.0, spine-long c.requires c.loop-children.invariant.0)

pub overflow_add-node-in-loop-children : goal.overflow_add-node-in-loop-children
overflow_add-node-in-loop-children c =
    omega (arith, c.well_formed.0, spine-long c.requires c.loop-children.invariant.0)

pub offset_bounds-words-node : goal.offset_bounds-words-node
offset_bounds-words-node c =
    omega (arith, c.well_formed.0, spine-long c.requires c.loop-children.invariant.0)

pub bounds-words-node : goal.bounds-words-node
bounds-words-node c =
    let longer =
    spine-longer c.requires c.loop-children.invariant.0 (λ e. c.loop-children-test.true (c.loop-children.invariant.1 ∙ e))
    in
    omega (arith, longer)

pub loop-children-smaller : goal.loop-children-smaller
loop-children-smaller c =
    omega (arith, spine-long c.requires c.loop-children.invariant.0)

pub loop-children-preserved : goal.loop-children-preserved
loop-children-preserved c =
    let on = first_child c.loop-children.invariant.0 (λ e. c.loop-children-test.true (c.loop-children.invariant.1 ∙ e)) in
    (rw c.front_at-front.ensures on, c.low-children-in-loop-children.ensures)

pub bounds-words-5 : goal.bounds-words-5
bounds-words-5 c =
    omega (arith, (opens-with c.requires).long)

pub loop-children-init : goal.loop-children-init
loop-children-init c =
    (the_root, c.low-children.ensures)

pub returns : goal.returns
returns c =
    (c.loop-children.invariant.0, sym c.loop-children.invariant.1 ∙ c.loop-children-test.false)
