-- `parse::read_by_passes` meets its contract: loaded, grouped by the effective version's rules, and laid out in the caller's buffers. Assumes
-- nothing.
use mathlib.Core.Path.{ap, ◌∙◌}
use mir.{Facts.{to_z-of_z}, Syntax.{w16}, Val.{to_z, of_z}}
use Rattle.molang.specs.Order.{effective}
use Rattle.parse.proofs.{EntryLaws.{read-load, read-group, read-fill, read_done}}
use Rattle.parse.proofs.read_by_passes.Goals as goal

pub group-grouped-requires : goal.group-grouped-requires
group-grouped-requires c =
    let load = c.load in
    let stack = c.stack_of in
    read-group c.requires load.new.work load.ensures stack.result stack.ensures

pub fill-requires : goal.fill-requires
fill-requires c =
    let stack = c.stack_of in
    read-fill c.requires c.load.new.work c.load.ensures stack.result stack.ensures c.args.used
    c.args.version (to_z w16 (of_z w16 c.effective.result)) c.group-grouped.result c.group-grouped.new.work
    c.group-grouped.ensures c.args.source

pub returns : goal.returns
returns c =
    let stack = c.stack_of in
    let version = c.effective in
    read_done c.requires c.load.new.work c.load.ensures stack.result stack.ensures c.args.used
    c.args.version (to_z w16 (of_z w16 version.result)) c.group-grouped.result c.group-grouped.new.work c.group-grouped.ensures
    c.args.source c.fill.result c.fill.new.tree c.fill.new.messages
    (to_z-of_z {w = w16} (record { sfits = version.type_inv }) ∙ (version.ensures ∙ ap effective (to_z-of_z {w = w16} c.ranges.version))) c.fill.ensures

pub load-requires : goal.load-requires
load-requires c =
    read-load c.requires
