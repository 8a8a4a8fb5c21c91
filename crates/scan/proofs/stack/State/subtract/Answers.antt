-- `scan::stack::State::subtract` meets its contract. Assumes nothing.
use native.Mathlib.Omega.{arith}
use Rattle.scan.specs.Turns.{subtract_turn, operator_turn}
use Rattle.scan.proofs.{TurnLaws.{then-turn, lay-stands}}
use Rattle.scan.proofs.stack.State.subtract.Goals as goal

pub operator-requires-clause-stands_free : goal.operator-requires-clause-stands_free
operator-requires-clause-stands_free c = (lay-stands _ c.args.self _ 1 c.requires.0 c.lay-t.ensures, omega arith)

pub returns : goal.returns
unfolding subtract_turn
returns c =
    let at = c.args.at in
    then-turn (operator_turn at 2013822976 2147483648) c.lay-t.ensures c.operator.ensures
