-- `liftcount::start` meets its contract. Assumes nothing.
use mathlib.Core.Path.{refl}
use Rattle.liftcount.specs.Running.{started}
use Rattle.liftcount.proofs.start.Goals as goal

pub returns : goal.returns
returns c list =
    unfold started in refl
