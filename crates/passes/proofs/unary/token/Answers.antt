-- `passes::unary::token` meets its contract.
use mathlib.Core.Path.{sym, ◌∙◌}
use Rattle.passes.proofs.UnaryPrefix.{token-within, can-prefix, operand-some, taken-negate-alone, taken-not-alone, taken_not}
use Rattle.passes.proofs.unary.token.Goals as goal

pub returns-then-list : goal.returns-then-list
returns-then-list c =
    taken-negate-alone (sym c.operator_of.ensures ∙ c.if-operator_of-eq-NEGATE.true) c.if-list.true

pub returns-then-list-2 : goal.returns-then-list-2
returns-then-list-2 c =
    taken-not-alone (λ e. c.if-operator_of-eq-NEGATE.false (c.operator_of.ensures ∙ e)) c.if-list-2.true

pub prefix-requires : goal.prefix-requires
prefix-requires c =
    can-prefix c.requires
    (operand-some c.requires c.if-list-2.false)

pub returns : goal.returns
returns c =
    taken_not
    (λ e. c.if-operator_of-eq-NEGATE.false
    (c.operator_of.ensures ∙ e))
    (operand-some c.requires
    c.if-list-2.false)
    c.prefix.ensures c.on.ensures

pub operator_of-requires : goal.operator_of-requires
operator_of-requires c =
    token-within c.requires
