-- `accept::nesting` meets its contract: what the operator-bitss of the whole list answer is answered by the tokens that are left. Assumes
use Rattle.accept.proofs.AcceptLaws.{WithinTo}
use Rattle.accept.proofs.nesting.Given as goal

abbrev pub invariant-loop-index : goal.invariant-loop-index
invariant-loop-index l =
    WithinTo l.list l.most l.n l.index l.depth
