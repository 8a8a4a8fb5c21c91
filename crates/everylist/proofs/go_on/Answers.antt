-- `everylist::go_on` is safe, and answers the front with what came behind it.
use Rattle.std.proofs.Common.{arith}
use Rattle.everylist.proofs.InputLaws.{long-input}
use Rattle.everylist.proofs.go_on.Goals as goal

pub overflow_add-rest : goal.overflow_add-rest
overflow_add-rest g c = omega (arith, c.in-Some.ensures.room)

pub answer-requires : goal.answer-requires
answer-requires g c = long-input c.args.front.now _ c.in-Some.rest c.requires c.in-Some.ensures
