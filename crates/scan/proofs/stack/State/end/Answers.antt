-- `scan::stack::State::end` meets its contract. Assumes nothing.
use native.Mathlib.Omega.{arith}
use Rattle.scan.specs.States.{stops}
use Rattle.scan.proofs.{SettleLaws.{based-ground}, TurnLaws.{end-done}}
use Rattle.scan.proofs.stack.State.end.Goals as goal

pub settle-s-requires-clause-grounded : goal.settle-s-requires-clause-grounded
settle-s-requires-clause-grounded c = based-ground 268435456 (omega arith) c.requires.based

pub returns-then-s-eq-WHOLE : goal.returns-then-s-eq-WHOLE
returns-then-s-eq-WHOLE c = end-done _ c.settle-s.ensures.becomes c.if-s-eq-WHOLE.true

pub returns : goal.returns
returns c = stops c.settle-s.ensures.becomes.long
