-- `liftcount::main` is safe, and answers what the input came to. Assumes nothing.
use mathlib.Core.Path.{refl}
use Rattle.liftcount.proofs.{Stands.{reached-came}}
use Rattle.liftcount.proofs.main.Goals as goal

pub answer-requires : goal.answer-requires
answer-requires c = reached-came _ _ _ _ refl c.in-Some.ensures.reached
