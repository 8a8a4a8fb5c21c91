-- `liftcount::step::after_word` meets its contract. Assumes nothing.
use mathlib.Core.Path.{refl}
use Rattle.liftcount.proofs.step.after_word.Goals as goal

pub returns : goal.returns
returns c list =
    refl
