-- `table::node_word` meets its contract: where the node closes, its count, and the words of its token. Assumes nothing.
use mathlib.Core.Path.{◌∙◌}
use native.Mathlib.Omega.{arith}
use Rattle.table.proofs.{MarkedLaws.{node-close, node-count, node-token}}
use Rattle.table.proofs.node_word.Goals as goal

pub returns-then-field-eq-CLOSE_FIELD : goal.returns-then-field-eq-CLOSE_FIELD
returns-then-field-eq-CLOSE_FIELD c =
    rw c.if-field-eq-CLOSE_FIELD.true
    (node-close c.args.node _ c.close_of.result (omega arith) c.close_of.ensures c.close_word.ensures)

pub returns-then-field-eq-COUNT_FIELD : goal.returns-then-field-eq-COUNT_FIELD
returns-then-field-eq-COUNT_FIELD c = rw c.if-field-eq-COUNT_FIELD.true (node-count c.args.node _ c.children_word.ensures)

pub returns : goal.returns
returns c =
    c.token_word.ensures ∙ node-token c.args.node c.args.field (omega arith)
