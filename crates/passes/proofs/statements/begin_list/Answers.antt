-- `begin_list`: the list's node is there already, or is made.
use Rattle.passes.specs.Statements.{there, begun}
use Rattle.passes.proofs.statements.begin_list.Goals as goal

pub returns-then-done-eq0 : goal.returns-then-done-eq0
returns-then-done-eq0 c =
    begun c.if-done-eq0.true (rw c.second_spare.ensures at c.make.ensures)

pub returns-else-done-eq0 : goal.returns-else-done-eq0
returns-else-done-eq0 c =
    there c.if-done-eq0.false
