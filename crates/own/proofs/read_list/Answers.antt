-- `own::read_list` meets its contract: the list's own call with buffers that are long enough. Assumes nothing.
use mathlib.Core.Path.{◌∙◌}
use mir.Facts.{to_z-of_z}
use Rattle.own.proofs.{CallLaws.{told-own, tree-own, messages-own, work-own}}
use Rattle.own.proofs.read_list.Goals as goal

pub returns : goal.returns
returns c =
    let a = c.args in
    let list = a.list.now in
    let tree = a.tree.now in
    let messages = a.messages.now in
    let work = a.work.now in
    let read = rw (to_z-of_z c.ranges.version) at c.read_own.ensures in
    record { result_value = read.told ∙ told-own list tree messages work c.requires a.version; tree_after = read.tree ∙ tree-own list tree messages work c.requires a.version; messages_after = read.messages ∙ messages-own list tree messages work c.requires a.version; work_after = read.work ∙ work-own list tree messages work c.requires a.version }
