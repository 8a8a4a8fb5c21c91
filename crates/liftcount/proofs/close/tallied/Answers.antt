-- `liftcount::close::tallied` meets its contract, case by case. Assumes nothing.
use mathlib.Core.Path.{refl}
use Rattle.liftcount.proofs.close.tallied.Goals as goal

pub returns-in-Same : goal.returns-in-Same
returns-in-Same c = rw (c.in-Same.is, c.one_more.ensures, c.one_more-in-Same.ensures) refl

pub returns-in-Different : goal.returns-in-Different
returns-in-Different c = rw (c.in-Different.is, c.one_more.ensures, c.one_more-in-Different.ensures) refl

pub returns-in-One : goal.returns-in-One
returns-in-One c = rw (c.in-One.is, c.one_more.ensures, c.one_more-in-One.ensures) refl

pub returns-in-Both : goal.returns-in-Both
returns-in-Both c = rw (c.in-Both.is, c.one_more.ensures, c.one_more-in-Both.ensures) refl
