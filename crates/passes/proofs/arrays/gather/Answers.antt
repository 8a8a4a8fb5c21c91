-- `gather`: its loop turns the chain of the index's children onto the array's (ArrayChain).
use Rattle.passes.proofs.ArrayChain.{gather-start, gather-in, gather-step, gather-done, gather-falls}
use Rattle.passes.proofs.arrays.gather.Goals as goal

pub next_of-next-requires : goal.next_of-next-requires
next_of-next-requires c =
    gather-in c.loop-s.invariant c.requires
    c.loop-s-test.true

pub set_next-requires : goal.set_next-requires
set_next-requires c =
    gather-in c.loop-s.invariant
    c.requires c.loop-s-test.true

pub loop-s-smaller : goal.loop-s-smaller
loop-s-smaller c =
    gather-falls _ c.loop-s.invariant
    c.requires
    c.loop-s-test.true c.next_of-next.ensures

pub loop-s-preserved : goal.loop-s-preserved
loop-s-preserved c =
    gather-step c.loop-s.invariant _ _
    c.requires
    c.loop-s-test.true c.set_next.ensures
    c.next_of-next.ensures

pub shape_of-work : goal.shape_of-work
shape_of-work c =
    (gather-done c.loop-s.invariant _ c.loop-s-test.false
    c.set_first.ensures).long

pub returns : goal.returns
returns c =
    gather-done c.loop-s.invariant _ c.loop-s-test.false
    c.set_first.ensures

pub loop-s-init : goal.loop-s-init
loop-s-init c =
    gather-start c.first_of-head.ensures c.first_of-s.ensures
