-- `write::statements::write_statements` meets its contract. The loop's invariant is `Stating`; the measure is the words that are left.
use Prim.Native.Nat.{◌-◌}
use lib.ListN.{length}
use Rattle.write.proofs.StatementLaws.{Stating}
use Rattle.write.proofs.statements.write_statements.Given as goal

abbrev pub invariant-loop-at : goal.invariant-loop-at
invariant-loop-at l =
    Stating l.tree l.fn.list l.list l.pen.to l.at

abbrev pub decreases-loop-at : goal.decreases-loop-at
decreases-loop-at l =
    length l.tree - l.at
