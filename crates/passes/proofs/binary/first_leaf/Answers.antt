-- `first_leaf`: its loop goes down or on, and has turns enough (BinarySearch).
use Prim.Native.Nat.{◌+◌, ◌-◌}
use lib.ListN.{length}
use native.Mathlib.Omega.{arith}
use mathlib.Core.Path.{◌≡◌, refl}
use Rattle.passes.proofs.CallLaws.{shares_as}
use Rattle.passes.proofs.BinarySearch.{search-start, search-in, search-down, search-next, search-done, search-left}
use Rattle.passes.proofs.binary.first_leaf.Goals as goal
use Rattle.passes.proofs.binary.first_leaf.Goals.{then-intersects, else-intersects}

pub loop-init : goal.loop-init
loop-init c =
    let e : length c.args.work.now - 0 ≡ length c.args.work.now = omega arith in
    rw e (search-start _ c.args.top c.args.classes.0)

pub classes_of-requires : goal.classes_of-requires
classes_of-requires c =
    search-in (c.loop.invariant c.requires) c.if-s-eq0.false

pub first_of-s-requires : goal.first_of-s-requires
first_of-s-requires c =
    search-in (c.loop.invariant c.requires) c.if-s-eq0.false

pub next_of-s-requires : goal.next_of-s-requires
next_of-s-requires c =
    search-in (c.loop.invariant c.requires) c.if-s-eq0.false

pub loop-preserved : goal.loop-preserved
loop-preserved c =
    let e : length c.args.work.now - (c.loop.counter + 1) ≡ length c.args.work.now - c.loop.counter - 1 = omega arith in
    elim c.if-intersects.branch [
      | then-intersects w ↦
          λ g.
          rw (w.leaf-is, w.s-is, w.first_of-s.ensures, e)
          (search-down (c.loop.invariant g) c.if-s-eq0.false
          (shares_as c.intersects.ensures c.classes_of.ensures refl w.if-intersects.true))
      | else-intersects w ↦
          λ g.
          rw (w.leaf-is, w.s-is, w.next_of-s.ensures, e)
          (search-next (c.loop.invariant g) c.if-s-eq0.false
          (shares_as c.intersects.ensures c.classes_of.ensures refl w.if-intersects.false))
    ]

pub returns-then-s-eq0 : goal.returns-then-s-eq0
returns-then-s-eq0 c =
    λ g ops covers. search-done (c.loop.invariant g) c.if-s-eq0.true ops covers

pub returns : goal.returns
returns c =
    λ g ops covers. absurd (omega (arith, search-left (c.loop.invariant g), c.loop-test.false))
