-- `shape::tree::TreeOrder::fits_node` meets its contract: by the operator and the count; the other words change nothing. Assumes nothing.
use native.Mathlib.Omega.{arith}
use borrow.Author.Tests.{leb-true}
use Rattle.molang.specs.Words.{low_of}
use Rattle.shape.proofs.OrderLaws.{node-fits}
use Rattle.shape.proofs.tree.TreeOrderWalk.fits_node.Goals as goal

pub overflow_add-result : goal.overflow_add-result
overflow_add-result c = unfold low_of in omega (arith, c.low.ensures, c.requires.1)

pub returns-then-self : goal.returns-then-self
returns-then-self c =
    λ e. node-fits c.args.self c.args.count c.if-self.true c.requires.1 (omega (arith, leb-true _ _ e, c.low.ensures))
