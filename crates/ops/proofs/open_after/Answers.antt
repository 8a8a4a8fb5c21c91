-- `ops::open_after` meets its contract: the count is raised, and one is taken where one is left. Assumes nothing.
use native.Mathlib.Omega.{arith}
use Rattle.ops.proofs.{OperatorLaws.{raise-few, open-raised}}
use Rattle.ops.proofs.open_after.Goals as goal

pub returns : goal.returns
returns c =
    let a = c.args in omega (arith, open-raised a.depth a.op, c.raise_of.ensures, c.saturating_sub.ensures)

pub overflow_add-depth : goal.overflow_add-depth
overflow_add-depth c =
    omega (arith, raise-few c.args.op, c.raise_of.ensures)
