-- `scan::stack::State::settle` meets its contract. The loop's invariant: what is left to settle becomes the same as what was given. The measure
-- is how deep the stack is. Assumes nothing.
use Rattle.scan.proofs.{SettleLaws.{two, less, again, ends}}
use Rattle.scan.proofs.stack.State.settle.Goals as goal

pub take-s-requires : goal.take-s-requires
take-s-requires c =
    let i = c.loop-s.invariant in
    (i.sound, i.room, two i c.loop-s-test.true)

pub loop-s-smaller : goal.loop-s-smaller
loop-s-smaller c =
    less c.loop-s.invariant c.loop-s-test.true c.take-s.ensures.becomes

pub loop-s-preserved : goal.loop-s-preserved
loop-s-preserved c =
    again c.loop-s.invariant c.loop-s-test.true c.take-s.ensures.becomes c.take-s.ensures.result_value

pub returns-clause-becomes : goal.returns-clause-becomes
returns-clause-becomes c = ends c.loop-s.invariant c.loop-s-test.false
