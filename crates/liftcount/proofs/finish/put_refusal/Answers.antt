-- `liftcount::finish::put_refusal` meets its contract: the buffers of an answer are not looked at for a refusal.
use Rattle.std.proofs.Common.{rules}
use Rattle.listing.specs.Rows.{answer_text}
use Rattle.liftcount.specs.Counting.{refusal_line}
use Rattle.liftcount.proofs.finish.put_refusal.Goals as goal

pub returns-clause-upper_bound : goal.returns-clause-upper_bound
returns-clause-upper_bound c = c.put_answer.ensures.upper_bound

pub returns-clause-wrote : goal.returns-clause-wrote
returns-clause-wrote c = unfold refusal_line answer_text in search rules
