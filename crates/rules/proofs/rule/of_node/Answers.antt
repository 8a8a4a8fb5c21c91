-- `rules::rule::of_node` meets its contract: a leaf, or a node with children, whose rule the table has. Assumes nothing.
use mathlib.Core.{Path.{◌≡◌, sym, ap, ◌∙◌}, Bool.{false}}
use lib.{Dec.{eqb}, ListN.{get_or, get_or-map}}
use borrow.Author.{Tests.{eq-eqb, ne_eqb}}
use Rattle.molang.specs.{Words.{low_of}, OperatorRules.{operator_rule}}
use Rattle.rules.specs.{Nodes.{node_rule}, RuleNumbers.{rule_number}, declared.rule.Rule.TheVariants.{Leaf}}
use Rattle.rules.proofs.{NodeLaws.{rule-in}}
use Rattle.rules.proofs.rule.of_node.Goals as goal

pub returns-then-low-eq0 : goal.returns-then-low-eq0
unfolding node_rule
returns-then-low-eq0 c first h =
    let count = c.args.count in
    rw (node_rule, eq-eqb (low_of count) 0 (sym c.low.ensures ∙ c.if-low-eq0.true))

pub returns : goal.returns
unfolding node_rule
returns c first h =
    let a = c.args in
    let parent : eqb (low_of a.count) 0 ≡ false =
    ne_eqb (low_of a.count) 0 (λ e. c.if-low-eq0.false (c.low.ensures ∙ e))
    in
    rw (node_rule, parent)
    (sym (get_or-map rule_number a.table.now c.index_of.result Leaf)
    ∙ (λ i. get_or (h i) (c.index_of.ensures i) 0)
    ∙ (rule-in first _ ∙ ap (operator_rule first) c.operator.ensures))
