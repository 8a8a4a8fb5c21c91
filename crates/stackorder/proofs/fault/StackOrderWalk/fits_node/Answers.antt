-- `stackorder::fault::StackOrder::fits_node` meets its contract: by the operator and the count; the other words change nothing. Assumes
-- nothing.
use native.Mathlib.Omega.{arith}
use borrow.Author.Tests.{leb-true}
use Rattle.stackorder.proofs.FaultLaws.{node-fits}
use Rattle.stackorder.proofs.fault.StackOrderWalk.fits_node.Goals as goal

pub returns : goal.returns
returns c =
    λ e. node-fits c.args.self c.args.count (omega (arith, leb-true _ _ e, c.low.ensures)) (omega (arith, c.if-self.false))
