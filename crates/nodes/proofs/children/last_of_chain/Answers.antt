-- `nodes::children::last_of_chain` meets its contract.
use Prim.Native.Nat.{◌≤◌, ◌<◌}
use native.Mathlib.Omega.{arith}
use lib.ListN.{length}
use Rattle.nodes.specs.Store.{slot_end}
use Rattle.nodes.proofs.Taking.{last-start, last-first, last-in, last_step, last_done}
use Rattle.nodes.proofs.children.last_of_chain.Goals as goal
use Rattle.nodes.proofs.children.last_of_chain.Lts as lts
use Rattle.nodes.proofs.children.last_of_chain.Tie as tie
use Rattle.nodes.proofs.children.last_of_chain.Reads as reads

bounds : (c : (lts.In-loop tie.the-claims reads.Pre reads.Post goal.the-invariant-loop-s goal.the-decreases-loop-s))
    → let w = c.loop-s in
    (slot_end w.s ≤ length c.args.work.now) × (w.last < w.s)
bounds c = let v = c.loop-s.invariant in last-in v.0 v.1 c.loop-s-test.true

pub loop-s-preserved : goal.loop-s-preserved
loop-s-preserved c =
    let v = c.loop-s.invariant in
    rw c.next_of-s-in-loop-s.ensures (last_step v.0 v.1 c.loop-s-test.true)

pub next_of-s-requires : goal.next_of-s-requires
next_of-s-requires c =
    last-first c.requires.0 c.requires.1

pub loop-s-init : goal.loop-s-init
loop-s-init c =
    rw c.next_of-s.ensures (last-start c.requires.0 c.requires.1)

pub next_of-s-requires-in-loop-s : goal.next_of-s-requires-in-loop-s
next_of-s-requires-in-loop-s c =
    (bounds c.before).0

pub loop-s-smaller : goal.loop-s-smaller
loop-s-smaller c =
    let b = bounds c.before.before in omega arith

pub returns : goal.returns
returns c =
    let v = c.loop-s.invariant in last_done v.0 v.1 c.loop-s-test.false
