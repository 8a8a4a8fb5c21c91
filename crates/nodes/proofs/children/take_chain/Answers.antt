-- `nodes::children::take_chain` meets its contract: a turn of the loop is a step for each of two slots, or for the last one. Assumes
-- nothing.
use Prim.Native.Nat.{◌+◌, ◌≤◌, ◌<◌}
use native.Mathlib.Omega.{arith}
use lib.ListN.{length, set, length-set}
use Rattle.nodes.specs.Store.{slot_end}
use Rattle.nodes.proofs.{Taking.{Taking, take-start, take_in, take_step, take_done}}
use Rattle.nodes.proofs.children.take_chain.Goals as goal
use Rattle.nodes.proofs.children.take_chain.Lts as lts
use Rattle.nodes.proofs.children.take_chain.Tie as tie
use Rattle.nodes.proofs.children.take_chain.Reads as reads

-- The slot is in the store, and there is room for it.
bounds : (c : (lts.In-loop tie.the-claims reads.Pre reads.Post goal.the-invariant-loop-s goal.the-decreases-loop-s))
    → let w = c.loop-s in
    let to = c.args.to in
    (slot_end w.s ≤ to) × (to ≤ w.i) × (w.i < length w.work)
bounds c = let v = c.loop-s.invariant in take_in v.1 v.2 c.loop-s-test.true

-- It is taken.
one : (c : (lts.After-next_of tie.the-claims reads.Pre reads.Post goal.the-invariant-loop-s goal.the-decreases-loop-s))
    → let w = c.loop-s in
    let a = c.args in
    Taking a.work.now a.first a.to (set w.work w.i w.s) c.next_of-s.result (w.i + 1)
one c =
    let v = c.loop-s.invariant in
    rw c.next_of-s.ensures (take_step v.1 v.2 c.loop-s-test.true)

-- The slot after it is in the store, and there is room for it.
more : (c : (lts.Else1 tie.the-claims reads.Pre reads.Post goal.the-invariant-loop-s goal.the-decreases-loop-s))
    → let w = c.loop-s in
    let a = c.args in
    (slot_end c.next_of-s.result ≤ a.to) × (a.to ≤ w.i + 1) × (w.i + 1 < length (set w.work w.i w.s))
more c = let v = one c.before in take_in v.1 v.2 c.if-s-eq0.false

pub loop-s-preserved : goal.loop-s-preserved
loop-s-preserved c =
    let v = one c.before.before in
    rw c.next_of-s-in-loop-s.ensures (take_step v.1 v.2 c.if-s-eq0.false)

pub loop-s-init : goal.loop-s-init
loop-s-init c =
    take-start c.requires

pub offset_bounds-work-i : goal.offset_bounds-work-i
offset_bounds-work-i c =
    let b = bounds c in omega arith

pub bounds-work-i : goal.bounds-work-i
bounds-work-i c =
    (bounds c).2

pub overflow_add-i : goal.overflow_add-i
overflow_add-i c =
    let b = bounds c in omega arith

pub next_of-s-requires : goal.next_of-s-requires
next_of-s-requires c =
    let b = bounds c in simp length-set (omega arith)

pub overflow_sub-result : goal.overflow_sub-result
overflow_sub-result c =
    omega (arith, (one c.before).2.at)

pub shape_of-work-then-s-eq0 : goal.shape_of-work-then-s-eq0
shape_of-work-then-s-eq0 c =
    (one c.before).2.long

pub returns-then-s-eq0 : goal.returns-then-s-eq0
returns-then-s-eq0 c =
    let v = one c.before in take_done v.1 v.2 c.if-s-eq0.true

pub offset_bounds-work-i-in-loop-s : goal.offset_bounds-work-i-in-loop-s
offset_bounds-work-i-in-loop-s c =
    let b = more c in omega (arith, (one c.before).2.long)

pub bounds-work-i-in-loop-s : goal.bounds-work-i-in-loop-s
bounds-work-i-in-loop-s c =
    (more c).2

pub overflow_add-i-in-loop-s : goal.overflow_add-i-in-loop-s
overflow_add-i-in-loop-s c =
    let b = more c in omega (arith, (one c.before).2.long)

pub next_of-s-requires-in-loop-s : goal.next_of-s-requires-in-loop-s
next_of-s-requires-in-loop-s c =
    let b = more c in simp length-set (omega (arith, (one c.before).2.long))

pub loop-s-smaller : goal.loop-s-smaller
loop-s-smaller c =
    let b = bounds c.before.before.before in omega arith

pub overflow_sub-result-2 : goal.overflow_sub-result-2
overflow_sub-result-2 c =
    omega (arith, c.loop-s.invariant.2.at)

pub shape_of-work : goal.shape_of-work
shape_of-work c =
    c.loop-s.invariant.2.long

pub returns : goal.returns
returns c =
    let v = c.loop-s.invariant in take_done v.1 v.2 c.loop-s-test.false
