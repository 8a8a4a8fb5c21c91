-- `held::faults::commit_fault` meets its contract. Assumes nothing.
use Rattle.std.proofs.lemmas.Result.{err_from_is_err_and}
use Rattle.held.specs.{Held.{seen_row}, Editing.{commit_fault}}
use Rattle.held.proofs.{FaultLaws.{stops, goes-on, at-last}}
use Rattle.held.proofs.faults.commit_fault.Goals as goal

pub returns-in_err-claim_fault : goal.returns-in_err-claim_fault
unfolding commit_fault
returns-in_err-claim_fault c =
    let p = err_from_is_err_and c.from_residual.result c.from_residual.ensures.1 in
    rw (p.1, p.2) (stops _ c.in_err-claim_fault.ensures)

pub returns-in_err-seen_fault : goal.returns-in_err-seen_fault
unfolding commit_fault seen_row
returns-in_err-seen_fault c =
    let p = err_from_is_err_and c.from_residual-in_err-seen_fault.result c.from_residual-in_err-seen_fault.ensures.1 in
    rw (p.1, p.2) (goes-on _ c.in_ok-claim_fault.ensures (stops _ c.in_err-seen_fault.ensures))

pub returns-in_err-edit_fault : goal.returns-in_err-edit_fault
unfolding commit_fault seen_row
returns-in_err-edit_fault c =
    let p = err_from_is_err_and c.from_residual-in_err-edit_fault.result c.from_residual-in_err-edit_fault.ensures.1 in
    rw (p.1, p.2)
    (goes-on _ c.in_ok-claim_fault.ensures (goes-on _ c.in_ok-seen_fault.ensures (stops _ c.in_err-edit_fault.ensures)))

pub returns : goal.returns
unfolding commit_fault seen_row
returns c =
    goes-on _ c.in_ok-claim_fault.ensures
    (goes-on _ c.in_ok-seen_fault.ensures (goes-on _ c.in_ok-edit_fault.ensures (at-last c.count_fault.ensures)))
