-- `rules::number` meets its contract: a tree's nodes are numbered, and nothing else is. Assumes nothing.
use mathlib.Core.Path.{ap, ◌∙◌}
use mir.{Syntax.{w16}, Val.{of_z, to_z}, Facts.{to_z-of_z}}
use Rattle.molang.specs.Order.{effective}
use Rattle.rules.proofs.{EntryLaws.{tree-numbered}}
use Rattle.rules.proofs.number.Goals as goal

pub returns-in-Tree : goal.returns-in-Tree
returns-in-Tree c =
    let a = c.args in
    let version = c.effective in
    let effective-version = to_z-of_z {w = w16} (record { sfits = version.type_inv }) ∙ (version.ensures ∙ ap effective (to_z-of_z {w = w16} c.ranges.version)) in
    let first = c.is_from_6 in
    tree-numbered a.answer _ a.version (to_z w16 (of_z w16 version.result)) first.result a.tree.now a.rules.now _
    c.in-Tree.is effective-version first.ensures c.fill.ensures
