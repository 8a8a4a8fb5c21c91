-- `scan::stack::State::operator` meets its contract. Assumes nothing.
use Rattle.scan.specs.States.{stops}
use Rattle.scan.proofs.{SettleLaws.{based-ground}, TurnLaws.{operator-waits}}
use Rattle.scan.proofs.stack.State.operator.Goals as goal

pub settle-s-requires-clause-grounded : goal.settle-s-requires-clause-grounded
settle-s-requires-clause-grounded c = let g = c.requires.stands_free in based-ground _ g.1 g.0.based

pub returns-then-is_left_over : goal.returns-then-is_left_over
returns-then-is_left_over c = stops c.settle-s.ensures.becomes.long

pub returns : goal.returns
returns c =
    operator-waits _ _ _ _ c.settle-s.ensures.becomes _ c.is_left_over.ensures c.if-is_left_over.false
    c.wait.ensures
