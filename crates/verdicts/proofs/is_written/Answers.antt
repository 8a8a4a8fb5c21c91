-- `verdicts::is_written` meets its contract: each case of the answer. Assumes nothing.
use Rattle.verdicts.specs.Verdicts.{is_written}
use Rattle.verdicts.proofs.is_written.Goals as goal

pub returns-in-Ok : goal.returns-in-Ok
returns-in-Ok c = unfold is_written in rw c.in-Ok.is c.is_count.ensures

pub returns-in-Err : goal.returns-in-Err
returns-in-Err c = unfold is_written in rw (c.in-Err.is, ← c.from.ensures) c.is_refusal.ensures
