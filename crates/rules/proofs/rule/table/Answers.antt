-- `rules::rule::table` meets its contract: antt computes the rule of each of the 112 numbers and finds the table's entry. Assumes nothing.
use Rattle.molang.specs.{Operator.{between, is_math_call}, Rules.{number_beside}, OperatorRules.{operator_rule}}
use Rattle.ops.specs.Classes.{up_to}
use Rattle.rules.proofs.rule.table.Goals as goal

pub returns-then-comparisons_first : goal.returns-then-comparisons_first
returns-then-comparisons_first c =
    unfold between is_math_call number_beside operator_rule up_to in rw c.if-comparisons_first.true

pub returns-else-comparisons_first : goal.returns-else-comparisons_first
returns-else-comparisons_first c =
    unfold between is_math_call number_beside operator_rule up_to in rw c.if-comparisons_first.false
