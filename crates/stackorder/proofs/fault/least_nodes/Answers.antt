-- `stackorder::fault::least_nodes` meets its contract: only where several trees are left does one more node join them. Assumes nothing.
use native.Mathlib.Omega.{arith}
use Rattle.stackorder.specs.Faults.{stack}
use Rattle.stackorder.proofs.FaultLaws.{least-of-one, least-of-many}
use Rattle.stackorder.proofs.fault.least_nodes.Goals as goal

pub returns-then-done-le1 : goal.returns-then-done-le1
returns-then-done-le1 c = least-of-one (stack c.args.done c.args.begun) (omega (arith, c.if-done-le1.true))

pub returns-else-done-le1 : goal.returns-else-done-le1
returns-else-done-le1 c = omega (arith, least-of-many (stack c.args.done c.args.begun) (omega (arith, c.if-done-le1.false)))
