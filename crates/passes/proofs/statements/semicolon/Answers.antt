-- `semicolon`: it stands first, or after another, or ends the open statement (StatementSemicolon).
use mathlib.Core.Path.{◌∙◌}
use Rattle.passes.specs.Statements.{leading, again}
use Rattle.passes.proofs.{StatementSemicolon.{can-end-give, semicolon-ended}}
use Rattle.passes.proofs.statements.semicolon.Goals as goal

pub returns-then-list-from : goal.returns-then-list-from
returns-then-list-from c =
    rw c.on.ensures
    (again c.if-list-eq0.false (c.if-list-from.true ∙ c.wide-from.ensures))

pub end_statement-requires : goal.end_statement-requires
end_statement-requires c =
    can-end-give c.wide-from.result
    c.wide-from.ensures
    c.if-list-from.false
    c.requires
    c.begin_list.ensures

pub returns : goal.returns
returns c =
    semicolon-ended
    c.wide-from.result
    c.wide-from.ensures
    c.if-list-from.false
    c.requires
    c.begin_list.ensures
    c.end_statement.ensures c.moved.ensures c.on-2.ensures

pub returns-then-list-eq0 : goal.returns-then-list-eq0
returns-then-list-eq0 c =
    leading c.if-list-eq0.true
