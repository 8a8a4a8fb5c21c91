-- `accept::is_limit` meets its contract: both tests. Assumes nothing.
use native.Mathlib.Omega.{arith}
use borrow.Author.Tests.{le-leb, lt-leb}
use Rattle.molang.specs.Parse.{is_limit}
use Rattle.accept.proofs.is_limit.Goals as goal

pub returns-then-limit-ge1 : goal.returns-then-limit-ge1
returns-then-limit-ge1 c =
    unfold is_limit in rw (le-leb 1 c.args.limit (omega arith))

pub returns-else-limit-ge1 : goal.returns-else-limit-ge1
returns-else-limit-ge1 c =
    unfold is_limit in rw (lt-leb 1 c.args.limit (omega arith))
