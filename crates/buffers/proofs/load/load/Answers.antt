-- `buffers::load::load` meets its contract.
use native.Mathlib.Omega.{arith}
use Rattle.buffers.proofs.{Loading.{load-start, load-in, load_step, load-done}}
use Rattle.buffers.proofs.load.load.Goals as goal

pub load_token-requires : goal.load_token-requires
load_token-requires c =
    rw c.stack_of-stack.ensures
    (load-in c.requires c.loop-i.invariant c.loop-i-test.true
    c.class_table-table.ensures)

pub loop-i-preserved : goal.loop-i-preserved
loop-i-preserved c =
    load_step c.loop-i.invariant c.loop-i-test.true
    (rw c.stack_of-stack.ensures at c.load_token.ensures)

pub returns : goal.returns
returns c = load-done c.requires c.loop-i.invariant c.loop-i-test.false

pub loop-i-init : goal.loop-i-init
loop-i-init c =
    let a = c.args in load-start a.list.now a.work.now a.n

pub loop-i-smaller : goal.loop-i-smaller
loop-i-smaller c =
    let h = c.loop-i-test.true in omega arith

pub shape_of-work : goal.shape_of-work
shape_of-work c =
    c.loop-i.invariant.long
