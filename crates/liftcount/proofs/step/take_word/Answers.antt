-- `liftcount::step::take_word` meets its contract. Assumes nothing.
use Rattle.liftcount.specs.Running.{word_taken}
use Rattle.liftcount.proofs.step.take_word.Goals as goal

pub returns-in-Ok : goal.returns-in-Ok
returns-in-Ok c = rw c.in-Ok.is c.taken.ensures

pub returns-in-Err : goal.returns-in-Err
unfolding word_taken
returns-in-Err c = rw c.in-Err.is (c.after_word.ensures c.args.list.now)
