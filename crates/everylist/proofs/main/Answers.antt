-- `everylist::main` is safe, and answers what came of the input.
use Rattle.std.proofs.Common.{rules}
use Rattle.everylist.proofs.InputLaws.{short-input}
use Rattle.everylist.proofs.main.Goals as goal

pub answer-requires : goal.answer-requires
answer-requires c = short-input c.fill.new.buffer c.in-Ok.n (search rules) c.in-Ok.ensures.prefix_len.0
