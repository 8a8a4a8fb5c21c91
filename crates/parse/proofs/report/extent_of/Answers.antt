-- `parse::report::extent_of` meets its contract: the words of the linked trees are laid out, and the extent is read from them. Assumes
-- nothing.
use native.Mathlib.Omega.{arith}
use lib.ListN.{length-take}
use Rattle.parse.proofs.{RootLaws.{measure-emit, measure-few, measured}}
use Rattle.parse.proofs.report.extent_of.Goals as goal

pub emit-nodes-requires : goal.emit-nodes-requires
emit-nodes-requires c = rw (c.tree_of-to.ensures, c.stack_of.ensures) (measure-emit c.requires)

pub overflow_mul-end : goal.overflow_mul-end
overflow_mul-end c =
    let p = c.requires in
    omega (arith, measure-few p c.emit-nodes.ensures, p.few)

pub overflow_add-end : goal.overflow_add-end
overflow_add-end c =
    let p = c.requires in
    omega (arith, measure-few p c.emit-nodes.ensures, p.few, c.tree_of-to.ensures)

pub slice_bounds-of_tree-end : goal.slice_bounds-of_tree-end
slice_bounds-of_tree-end c =
    let p = c.requires in
    let emit = c.emit-nodes.ensures in
    omega (arith, measure-few p emit, p.room, emit.long, c.tree_of-to.ensures)

pub of_tree-requires : goal.of_tree-requires
of_tree-requires c =
    let p = c.requires in
    simp length-take (omega (arith, measure-few p c.emit-nodes.ensures, p.few))

pub returns : goal.returns
returns c =
    let a = c.args in
    let stack = c.stack_of in
    measured a.work.now c.emit-nodes.new.work a.first a.n c.tree_of-to.result stack.result c.emit-nodes.result
    c.of_tree.result c.requires c.tree_of-to.ensures stack.ensures c.emit-nodes.ensures c.of_tree.ensures
