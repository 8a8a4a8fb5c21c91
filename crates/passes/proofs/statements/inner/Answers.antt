-- `inner`: the node is entered, or kept as it is.
use mathlib.Core.Path.{sym, ap, ◌∙◌}
use Rattle.molang.specs.Statements.{is_entered}
use Rattle.passes.specs.Statements.{entered, kept}
use Rattle.passes.proofs.statements.inner.Goals as goal

pub returns-then-holds_statements : goal.returns-then-holds_statements
returns-then-holds_statements c =
    rw c.enter.ensures
    (entered
    (ap is_entered (sym c.operator_of.ensures) ∙ sym c.holds_statements.ensures
    ∙ c.if-holds_statements.true))

pub returns : goal.returns
returns c =
    let k = c.keep.ensures in
    rw c.on.ensures
    (rw k.0
    (kept
    (ap is_entered (sym c.operator_of.ensures) ∙ sym
    c.holds_statements.ensures
    ∙ c.if-holds_statements.false)
    k.1))
