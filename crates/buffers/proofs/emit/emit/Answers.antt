-- `buffers::emit::emit` meets its contract: the loop, by the laws of Emitting. Assumes nothing.
use mathlib.Core.Path.{◌≡◌}
use native.Mathlib.Omega.{arith}
use lib.ListN.{length}
use Rattle.buffers.proofs.Emitting.{Turn, emit-start, emit-in, emit-step, emit-done}
use Rattle.buffers.proofs.emit.emit.Goals.{In-loop-s}
use Rattle.buffers.proofs.emit.emit.Goals as goal

pub loop-s-init : goal.loop-s-init
loop-s-init c = let a = c.args in (c.requires, emit-start a.work.now a.first a.to a.stack c.requires)

-- What a turn asks, and that the words are as many as they were.
turn : (c : In-loop-s) → let a = c.args in let w = c.loop-s in Turn a.work.now a.first a.to a.stack w.invariant.0 w.work w.s w.top w.nodes
    × (length w.work ≡ length a.work.now)
turn c =
    let a = c.args in
    let v = c.loop-s.invariant in
    (emit-in a.work.now a.first a.to a.stack v.0 v.1 c.loop-s-test.true, v.1.progress.long)

pub first_of-child-requires : goal.first_of-child-requires
first_of-child-requires c =
    let t = turn c in omega (arith, t.0.slot, t.0.low, t.0.high, t.0.node.room, t.1)

pub next_of-sibling-requires : goal.next_of-sibling-requires
next_of-sibling-requires c =
    let t = turn (goal.at.next_of-sibling-requires c).In-loop-s in
    omega (arith, t.0.slot, t.0.low, t.0.high, t.0.node.room, t.1)

pub emit_node-requires : goal.emit_node-requires
emit_node-requires c =
    (turn (goal.at.emit_node-requires c).In-loop-s).0.node

pub node_after-after-requires : goal.node_after-after-requires
node_after-after-requires c =
    let t = turn (goal.at.node_after-after-requires c).In-loop-s in
    (t.0.low, omega (arith, t.0.high, t.0.node.room, c.emit_node.auto.work))

pub loop-s-smaller : goal.loop-s-smaller
loop-s-smaller c =
    let t = turn (goal.at.loop-s-smaller c).In-loop-s in
    omega (arith, t.0.node.room, t.1)

pub loop-s-preserved : goal.loop-s-preserved
loop-s-preserved c =
    let a = c.args in
    let v = c.loop-s.invariant in
    let after = rw (c.first_of-child.ensures, c.next_of-sibling.ensures) at c.node_after-after.ensures in (
      v.0,
      emit-step a.work.now a.first a.to a.stack v.0 v.1 c.loop-s-test.true c.emit_node.ensures after,
    )

pub returns : goal.returns
returns c =
    let a = c.args in
    let v = c.loop-s.invariant in
    emit-done a.work.now a.first a.to a.stack v.0 v.1 c.loop-s-test.false
