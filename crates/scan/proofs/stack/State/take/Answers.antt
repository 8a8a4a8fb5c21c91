-- `scan::stack::State::take` meets its contract. Assumes nothing.
use native.Mathlib.Omega.{arith}
use Rattle.scan.proofs.{TurnLaws.{lay-deep, takes, take-free}}
use Rattle.scan.proofs.stack.State.take.Goals as goal

pub pop-requires : goal.pop-requires
pop-requires c =
    let d = lay-deep _ c.args.self _ c.lay-s.ensures in
    (c.lay-s.ensures.sound, omega (arith, d, c.requires.2))

pub returns : goal.returns
returns c =
    let g = c.requires in
    let b = takes _ _ g.0 c.lay-s.ensures c.pop.ensures in
    record { becomes = b; result_value = take-free _ _ g.0 g.1 g.2 b }
