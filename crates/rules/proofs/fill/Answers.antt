-- `rules::fill` meets its contract: the rules of the first i nodes are in front. Assumes nothing.
use mathlib.Core.Path.{◌∙◌}
use native.Mathlib.Omega.{arith}
use Rattle.rules.proofs.{NodeLaws.{laid_none, laid_on, laid-all}}
use Rattle.rules.proofs.fill.Goals as goal

pub loop-i-init : goal.loop-i-init
loop-i-init c =
    laid_none c.args.comparisons_first c.args.nodes.now c.args.rules.now c.requires

pub loop-i-preserved : goal.loop-i-preserved
loop-i-preserved c =
    let a = c.args in
    laid_on a.comparisons_first a.nodes.now a.rules.now c.requires c.loop-i.i c.from.result c.loop-i.rules (omega arith)
    (c.from.ensures ∙ c.of_node.ensures a.comparisons_first c.table-table.ensures) c.loop-i.invariant

pub returns : goal.returns
returns c =
    let a = c.args in
    laid-all a.comparisons_first a.nodes.now a.rules.now c.requires c.loop-i.i c.loop-i.rules (omega arith) c.loop-i.invariant
