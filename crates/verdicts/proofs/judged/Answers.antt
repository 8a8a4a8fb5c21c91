-- `verdicts::judged` meets its contract: both are what the line says or not. Assumes nothing.
use Rattle.verdicts.proofs.judged.Goals as goal

pub returns : goal.returns
returns c =
    rw (← c.is_read-told.ensures, ← c.is_left-left.ensures) c.compared.ensures
