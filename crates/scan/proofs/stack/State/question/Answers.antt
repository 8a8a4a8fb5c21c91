-- `scan::stack::State::question` meets its contract: with the `:` that waits on top, or without one. Assumes nothing.
use mathlib.Core.Path.{sym, ◌∙◌}
use native.Mathlib.Omega.{arith}
use Rattle.scan.proofs.{SettleLaws.{based-ground}, TurnLaws.{settled-stands, two-stand, pair-above, question-takes, question-asks}}
use Rattle.scan.proofs.stack.State.question.Goals as goal

pub settle-s-requires-clause-grounded : goal.settle-s-requires-clause-grounded
settle-s-requires-clause-grounded c = based-ground 805306368 (omega arith) c.requires.0.based

pub take-t-requires : goal.take-t-requires
take-t-requires c =
    let b = c.settle-s.ensures in
    let g = settled-stands 805306368 1 (omega arith) c.requires.0 b.becomes b.result_value in
    (b.becomes.sound, omega (arith, g.room), two-stand g (pair-above _ (sym c.is_unpaired.ensures ∙ c.if-is_unpaired.true)))

pub returns-then-is_unpaired : goal.returns-then-is_unpaired
returns-then-is_unpaired c =
    question-takes _ _ c.settle-s.ensures.becomes _ c.is_unpaired.ensures c.if-is_unpaired.true
    c.take-t.ensures.becomes c.wait.ensures

pub returns : goal.returns
returns c =
    question-asks _ _ c.settle-s.ensures.becomes _ c.is_unpaired.ensures c.if-is_unpaired.false
    c.wait-2.ensures
