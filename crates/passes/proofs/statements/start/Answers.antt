-- `start`: the list is split where it has a semicolon (StatementLaws).
use Rattle.passes.proofs.{StatementLaws.{started-split, started-unsplit}}
use Rattle.passes.proofs.statements.start.Goals as goal

pub returns-then-has_semicolon : goal.returns-then-has_semicolon
returns-then-has_semicolon c =
    started-split (rw c.if-has_semicolon.true at c.has_semicolon.ensures)

pub returns : goal.returns
returns c =
    started-unsplit (rw c.if-has_semicolon.false at c.has_semicolon.ensures)
