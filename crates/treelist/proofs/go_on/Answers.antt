-- `treelist::go_on` is safe, and answers the front with what came behind it.
use Rattle.std.proofs.Common.{arith}
use Rattle.treelist.proofs.InputLaws.{long-input}
use Rattle.treelist.proofs.go_on.Goals as goal

pub overflow_add-rest : goal.overflow_add-rest
overflow_add-rest g c = omega (arith, c.in-Some.ensures.room)

pub answer_input-requires : goal.answer_input-requires
answer_input-requires g c = long-input c.args.front.now _ c.in-Some.rest.last c.in-Some.rest.bytes c.requires c.in-Some.ensures
