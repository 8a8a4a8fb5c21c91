-- `write::fill` meets its contract: answer 14, answer 15, or the list is filled with a script or an expression. Assumes nothing.
use Rattle.std.proofs.Common.{sym, ◌∙◌}
use Rattle.write.proofs.EntryLaws.{too_many, too_short, script-room, script-filled, expression-room, expression-filled}
use Rattle.write.proofs.fill.Goals as goal

pub returns-then-tokens-gt-MOST_TOKENS : goal.returns-then-tokens-gt-MOST_TOKENS
returns-then-tokens-gt-MOST_TOKENS c =
    let parts = too_many c.requires c.args.list.now c.if-tokens-gt-MOST_TOKENS.true in
    record { result_value = rw c.at.ensures parts.0; list_after = parts.1 }

pub returns-then-list-tokens : goal.returns-then-list-tokens
returns-then-list-tokens c =
    let parts = too_short c.requires c.args.list.now c.if-tokens-gt-MOST_TOKENS.false c.if-list-tokens.true in
    record { result_value = rw c.at-then-list-tokens.ensures parts.0; list_after = parts.1 }

pub write_statements-requires : goal.write_statements-requires
write_statements-requires c =
    script-room c.requires c.args.list.now c.if-tokens-gt-MOST_TOKENS.false c.if-list-tokens.false
    (sym c.operator.ensures ∙ c.if-operator-eq-SEMICOLON.true)

pub returns-then-operator-eq-SEMICOLON : goal.returns-then-operator-eq-SEMICOLON
returns-then-operator-eq-SEMICOLON c =
    let parts =
    script-filled c.requires c.args.list.now c.if-tokens-gt-MOST_TOKENS.false c.if-list-tokens.false
    (sym c.operator.ensures ∙ c.if-operator-eq-SEMICOLON.true) c.write_statements.new.list c.write_statements.ensures
    in
    record { result_value = parts.0; list_after = parts.1 }

pub write_node-requires : goal.write_node-requires
write_node-requires c =
    rw c.new.ensures.to
    (expression-room c.requires c.args.list.now c.if-tokens-gt-MOST_TOKENS.false c.if-list-tokens.false
    (λ e. c.if-operator-eq-SEMICOLON.false (c.operator.ensures ∙ e)))

pub returns-else-operator-eq-SEMICOLON : goal.returns-else-operator-eq-SEMICOLON
returns-else-operator-eq-SEMICOLON c =
    let parts =
    expression-filled c.requires c.args.list.now c.if-tokens-gt-MOST_TOKENS.false c.if-list-tokens.false
    (λ e. c.if-operator-eq-SEMICOLON.false (c.operator.ensures ∙ e)) c.write_node.new.list
    (rw c.new.ensures.to at c.write_node.ensures.list_after)
    in
    record { result_value = parts.0; list_after = parts.1 }
