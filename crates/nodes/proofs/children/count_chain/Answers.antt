-- `nodes::children::count_chain` meets its contract: a step of the count for the first slot, one for the second, then one at each turn of
-- the loop.
use Prim.Native.Nat.{◌≤◌, ◌<◌}
use native.Mathlib.Omega.{arith}
use lib.ListN.{length}
use Rattle.nodes.specs.Store.{slot_end}
use Rattle.nodes.proofs.Taking.{Counting, count-start, count-in, count-step, count-done}
use Rattle.nodes.proofs.children.count_chain.Goals as goal
use Rattle.nodes.proofs.children.count_chain.Lts as lts
use Rattle.nodes.proofs.children.count_chain.Tie as tie
use Rattle.nodes.proofs.children.count_chain.Reads as reads

-- the first slot is counted
one : (c : (lts.After-next_of tie.the-claims reads.Pre reads.Post goal.the-invariant-loop-s goal.the-decreases-loop-s))
    → let a = c.args in
    Counting a.work.now a.first c.next_of-second.result 1
one c =
    let v = count-start c.requires in
    rw c.next_of-second.ensures (count-step v.0 v.1 c.if-first-eq0.false)

pub loop-s-init : goal.loop-s-init
loop-s-init c =
    let v = one c.before.before.before in
    (rw c.next_of-s.ensures (count-step v.0 v.1 c.if-second-eq0.false), omega arith)

bounds : (c : (lts.In-loop tie.the-claims reads.Pre reads.Post goal.the-invariant-loop-s goal.the-decreases-loop-s))
    → let w = c.loop-s in
    (slot_end w.s ≤ length c.args.work.now) × (w.n < w.s)
bounds c = let v = c.loop-s.invariant.0 in count-in v.0 v.1 c.loop-s-test.true

pub loop-s-preserved : goal.loop-s-preserved
loop-s-preserved c =
    let v = c.loop-s.invariant.0 in
    (rw c.next_of-s-in-loop-s.ensures (count-step v.0 v.1 c.loop-s-test.true), omega arith)

pub returns-then-first-eq0 : goal.returns-then-first-eq0
returns-then-first-eq0 c =
    let v = count-start c.requires in count-done v.0 v.1 c.if-first-eq0.true

pub next_of-second-requires : goal.next_of-second-requires
next_of-second-requires c =
    let v = count-start c.requires in (count-in v.0 v.1 c.if-first-eq0.false).0

pub returns-then-second-eq0 : goal.returns-then-second-eq0
returns-then-second-eq0 c =
    let v = one c.before.before in count-done v.0 v.1 c.if-second-eq0.true

pub next_of-s-requires : goal.next_of-s-requires
next_of-s-requires c =
    let v = one c.before.before in (count-in v.0 v.1 c.if-second-eq0.false).0

pub overflow_add-n : goal.overflow_add-n
overflow_add-n c =
    let b = bounds c.before in omega arith

pub next_of-s-requires-in-loop-s : goal.next_of-s-requires-in-loop-s
next_of-s-requires-in-loop-s c =
    (bounds c.before).0

pub loop-s-smaller : goal.loop-s-smaller
loop-s-smaller c =
    let b = bounds c.before.before in omega arith

pub returns : goal.returns
returns c =
    let v = c.loop-s.invariant.0 in count-done v.0 v.1 c.loop-s-test.false
