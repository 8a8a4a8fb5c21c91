-- `write::plain::judge` meets its contract: from the root of an expression, a root that is not plain, or from the statements.
-- Assumes nothing.
use Rattle.std.proofs.Common.{sym, ◌∙◌}
use Rattle.write.specs.Scripts.{an_expression, a_script}
use Rattle.write.proofs.JudgeLaws.{root-refused}
use Rattle.write.proofs.plain.judge.Goals as goal

pub judge_from-requires : goal.judge_from-requires
judge_from-requires c =
    (c.requires, an_expression (λ e. c.if-operator-ne-SEMICOLON.true (c.operator.ensures ∙ e)))

pub returns-then-not-holds_statements : goal.returns-then-not-holds_statements
returns-then-not-holds_statements c =
    rw c.at.ensures
    (root-refused c.requires (sym c.operator.ensures ∙ c.if-operator-ne-SEMICOLON.false)
    (sym c.holds_statements.ensures ∙ c.if-not-holds_statements.true))

pub judge_from-requires-2 : goal.judge_from-requires-2
judge_from-requires-2 c = (
  c.requires,
  rw c.low-statements.ensures (a_script (sym c.operator.ensures ∙ c.if-operator-ne-SEMICOLON.false)
      (sym c.holds_statements.ensures ∙ c.if-not-holds_statements.false)),
)
