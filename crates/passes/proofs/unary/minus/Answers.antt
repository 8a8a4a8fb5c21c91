-- `passes::unary::minus` meets its contract.
use Rattle.passes.proofs.UnaryPrefix.{can-prefix, minus-subtract, read_some, what-before, previous-slot, taken-first, taken-operator}
use Rattle.passes.proofs.{UnaryPrefix.{taken-operand, taken-minus, taken-unknown}}
use Rattle.passes.proofs.unary.minus.Goals as goal

pub prefix-requires : goal.prefix-requires
prefix-requires c =
    can-prefix c.requires.token c.requires.full

pub returns-then-list-eq0 : goal.returns-then-list-eq0
returns-then-list-eq0 c =
    taken-first c.requires
    c.if-list-eq0.true c.prefix.ensures c.on.ensures

pub operator_of-requires : goal.operator_of-requires
operator_of-requires c =
    previous-slot c.requires
    (read_some c.if-list-eq0.false)

pub prefix-requires-in-Operator : goal.prefix-requires-in-Operator
prefix-requires-in-Operator c =
    can-prefix c.requires.token
    c.requires.full

pub subtract-after-requires : goal.subtract-after-requires
subtract-after-requires c =
    minus-subtract c.requires

pub to_add-requires : goal.to_add-requires
to_add-requires c =
    previous-slot c.requires
    (read_some c.if-list-eq0.false)

pub returns-in-Operator : goal.returns-in-Operator
returns-in-Operator c =
    taken-operator
    c.requires
    (read_some c.if-list-eq0.false)
    (what-before c.before_minus-before.ensures
    c.operator_of.ensures
    c.in-Operator.is)
    c.prefix-in-Operator.ensures c.on-in-Operator.ensures

pub returns-in-Operand : goal.returns-in-Operand
returns-in-Operand c =
    taken-operand
    c.requires
    (read_some c.if-list-eq0.false)
    c.subtract-after.result
    (what-before c.before_minus-before.ensures
    c.operator_of.ensures
    c.in-Operand.is)
    c.subtract-after.ensures c.on-in-Operand.ensures

pub returns-in-Minus : goal.returns-in-Minus
returns-in-Minus c =
    taken-minus
    c.requires
    (read_some c.if-list-eq0.false)
    (what-before c.before_minus-before.ensures
    c.operator_of.ensures
    c.in-Minus.is)
    c.to_add.ensures c.on-in-Minus.ensures

pub returns-in-Unknown : goal.returns-in-Unknown
returns-in-Unknown c =
    taken-unknown c.requires
    (read_some c.if-list-eq0.false)
    (what-before c.before_minus-before.ensures c.operator_of.ensures c.in-Unknown.is)
