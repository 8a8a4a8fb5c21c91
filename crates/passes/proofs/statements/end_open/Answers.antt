-- `end_open`: no statement is open, or the open one is ended in the spare slot after the last finished one's.
use Prim.Native.Nat.{◌<◌}
use native.Mathlib.Omega.{arith}
use Rattle.passes.specs.Statements.{complete, closing}
use Rattle.passes.proofs.statements.end_open.Goals as goal

pub returns : goal.returns
returns c =
    let unended : c.args.done < c.args.list.write =
    omega (arith, c.requires.from, c.if-list-done.false) in
    closing unended (rw c.spare.ensures at c.end_statement.ensures)

pub returns-then-list-done : goal.returns-then-list-done
returns-then-list-done c =
    complete c.if-list-done.true
