-- `held::faults::ask_fault` meets its contract. Assumes nothing.
use Rattle.std.proofs.lemmas.Result.{err_from_is_err_and}
use Rattle.held.specs.Editing.{ask_fault}
use Rattle.held.proofs.{FaultLaws.{stops, goes-on, at-last}}
use Rattle.held.proofs.faults.ask_fault.Goals as goal

pub returns-in_err-claim_fault : goal.returns-in_err-claim_fault
unfolding ask_fault
returns-in_err-claim_fault c =
    let p = err_from_is_err_and c.from_residual.result c.from_residual.ensures.1 in
    rw (p.1, p.2) (stops _ c.in_err-claim_fault.ensures)

pub returns : goal.returns
unfolding ask_fault
returns c = goes-on _ c.in_ok-claim_fault.ensures (at-last c.edit_fault.ensures)
