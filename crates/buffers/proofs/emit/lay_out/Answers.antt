-- `buffers::emit::lay_out` meets its contract.
use Prim.Native.Nat.{◌+◌, ◌*◌, ◌-◌}
use mathlib.Core.Path.{◌≡◌}
use native.Mathlib.Omega.{arith}
use lib.ListN.{drop, length-take}
use Rattle.buffers.proofs.{Copying.{lay-room, lay-count, lay_done}}
use Rattle.buffers.proofs.emit.lay_out.Goals as goal

pub emit-nodes-requires : goal.emit-nodes-requires
emit-nodes-requires c =
    rw (c.tree_of-to.ensures, c.stack_of.ensures) (lay-room c.requires)

pub overflow_mul-end : goal.overflow_mul-end
overflow_mul-end c =
    let p = c.requires in
    let few = lay-count p c.emit-nodes.ensures in
    omega (arith, p.few)

pub overflow_add-end : goal.overflow_add-end
overflow_add-end c =
    let p = c.requires in
    let few = lay-count p c.emit-nodes.ensures in
    omega (arith, p.few, c.tree_of-to.ensures)

pub slice_bounds-copy_tree-end : goal.slice_bounds-copy_tree-end
slice_bounds-copy_tree-end c =
    let p = c.requires in
    let few = lay-count p c.emit-nodes.ensures in
    omega (arith, p.work-room, c.emit-nodes.auto.work, c.tree_of-to.ensures)

pub copy_tree-requires : goal.copy_tree-requires
copy_tree-requires c =
    let p = c.requires in
    let few = lay-count p c.emit-nodes.ensures in
    let to = c.tree_of-to.result in
    omega (arith, p.tree-room, length-take (to + 7 * c.emit-nodes.result - to) (drop to c.emit-nodes.new.work))

pub returns : goal.returns
returns c =
    let at = c.tree_of-to.ensures in
    let to = c.tree_of-to.result in
    let words : to + 7 * c.emit-nodes.result - to ≡ 7 * c.emit-nodes.result = omega arith in
    lay_done c.requires (rw (at, c.stack_of.ensures) at c.emit-nodes.ensures)
    (rw at at (rw words at c.copy_tree.ensures))
