-- `held::faults::edit_fault` meets its contract: a row for each test. Assumes nothing.
use Rattle.held.proofs.{FaultLaws.{place-past, removal-past, edit-right}}
use Rattle.held.proofs.faults.edit_fault.Goals as goal

pub returns-then-held-place-2 : goal.returns-then-held-place-2
returns-then-held-place-2 c =
    let a = c.args in
    rw c.at-then-held-place-2.ensures (removal-past a.held a.place a.removed c.if-held-place.false c.if-held-place-2.true)

pub returns : goal.returns
returns c =
    let a = c.args in
    edit-right a.held a.place a.removed c.if-held-place.false c.if-held-place-2.false

pub returns-then-held-place : goal.returns-then-held-place
returns-then-held-place c =
    let a = c.args in rw c.at.ensures (place-past a.held a.place a.removed c.if-held-place.true)
