-- `liftlists::carry` hands over what the chunks give, one after the other. Assumes nothing.
use Prim.Native.Nat.{◌-◌, ◌≤◌}
use native.Mathlib.Omega.{arith}
use lib.ListN.{take}
use Rattle.streams.specs.Came.{came}
use Rattle.liftlists.specs.{Steps.{Fine, held_in}, Going.{FedTo, yet}}
use Rattle.liftlists.proofs.GoingLaws.{reached_then, few-taken}
use Rattle.liftlists.proofs.carry.Goals as goal

pub loop-init : goal.loop-init
loop-init g c = record { laid = omega arith; fine = _; reached = c.requires.place_reached }

pub read_on-turn-requires : goal.read_on-turn-requires
read_on-turn-requires g c =
    let inv = c.loop.invariant in
    record { list_len = (omega arith, c.requires.list_len.1, inv.laid); fine = (inv.fine, inv.reached) }

pub slice_bounds-tail-count : goal.slice_bounds-tail-count
slice_bounds-tail-count g c = rw c.in-Ok.is at c.read_on-turn.ensures.turned.whole

pub slice_bounds-tail-start : goal.slice_bounds-tail-start
slice_bounds-tail-start g c =
    let turned = c.read_on-turn.ensures.turned in
    let whole = rw c.in-Ok.is at turned.whole in
    let room = rw c.in-Ok.is at turned.room in
    omega (arith, whole, room)

pub slice_bounds-tail-end : goal.slice_bounds-tail-end
slice_bounds-tail-end g c = let room = rw c.in-Ok.is at c.read_on-turn.ensures.turned.room in omega (arith, room)

pub finish-requires : goal.finish-requires
finish-requires g c =
    let turned = c.read_on-turn.ensures.turned in
    let fed = rw c.in-Some.is at turned.fed_to in
    let most = rw c.in-Ok.is at turned.most in
    record {
      list_len = (c.requires.list_len.1, fed.1, few-taken (c.in-Ok.last - c.read_on-turn.result.whole) _ (omega (arith, most)));
      fine = (fed.0, reached_then c.loop.invariant.reached fed.2);
    }

pub loop-preserved : goal.loop-preserved
loop-preserved g c =
    let fed = rw c.in-Some.is at c.read_on-turn.ensures.turned.fed_to in
    record { laid = fed.1; fine = fed.0; reached = reached_then c.loop.invariant.reached fed.2 }
