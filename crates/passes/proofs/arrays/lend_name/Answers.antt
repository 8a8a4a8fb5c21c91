-- `lend_name`: the array's last child, its name and the index's contents are looked at (ArrayGrowing).
use Rattle.passes.proofs.ArrayGrowing.{lent-no-child, lent-no-name, lent-no-index, lent-name}
use Rattle.passes.proofs.arrays.lend_name.Goals as goal

pub returns-then-name-eq0 : goal.returns-then-name-eq0
returns-then-name-eq0 c = lent-no-child c.first_of-name.result c.first_of-name.ensures c.if-name-eq0.true

pub returns-then-not-is_token : goal.returns-then-not-is_token
returns-then-not-is_token c =
    lent-no-name c.first_of-name.result c.is_token.result c.first_of-name.ensures c.is_token.ensures
    c.if-not-is_token.true

pub returns-then-operator_of-ne-LEFT_BRACKET : goal.returns-then-operator_of-ne-LEFT_BRACKET
returns-then-operator_of-ne-LEFT_BRACKET c =
    lent-no-index c.first_of-contents.result c.operator_of.result c.first_of-contents.ensures
    c.operator_of.ensures c.if-operator_of-ne-LEFT_BRACKET.true

pub returns : goal.returns
returns c =
    lent-name c.first_of-name.result c.first_of-contents.result c.operator_of.result c.next_of-rest.result
    c.is_token.result c.if-name-eq0.false c.first_of-name.ensures
    c.is_token.ensures c.if-not-is_token.false c.first_of-contents.ensures
    c.operator_of.ensures c.if-operator_of-ne-LEFT_BRACKET.false c.next_of-rest.ensures c.set_first.ensures
    c.set_operator.ensures
