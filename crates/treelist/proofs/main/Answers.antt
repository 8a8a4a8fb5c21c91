-- `treelist::main` is safe, and answers what came of the input.
use Rattle.std.proofs.Common.{rules}
use Rattle.treelist.proofs.InputLaws.{short-input}
use Rattle.treelist.proofs.main.Goals as goal

pub answer_input-requires : goal.answer_input-requires
answer_input-requires c = short-input c.fill.new.buffer c.in-Ok.n (search rules) c.in-Ok.ensures.prefix_len.0
