-- `held::faults::seen_fault` meets its contract. Assumes nothing.
use mathlib.Core.List.{[]}
use Rattle.held.specs.Answers.{state}
use Rattle.held.proofs.{FaultLaws.{seen_other, seen-right}}
use Rattle.held.proofs.faults.seen_fault.Goals as goal

pub returns-then-seen-held : goal.returns-then-seen-held
returns-then-seen-held c =
    let a = c.args in rw c.at.ensures (seen_other (state a.held []) a.seen c.if-seen-held.true)

pub returns : goal.returns
returns c =
    let a = c.args in seen-right (state a.held []) a.seen c.if-seen-held.false
