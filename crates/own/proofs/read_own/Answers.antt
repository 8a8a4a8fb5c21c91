-- `own::read_own` meets its contract: the source length is the highest of the list's ends. Assumes nothing.
use mir.Facts.{to_z-of_z}
use Rattle.own.proofs.{CallLaws.{same-call, own-call}}
use Rattle.own.proofs.read_own.Goals as goal

pub returns : goal.returns
returns c =
    let a = c.args in
    let source = c.highest_end-source in
    same-call
    (own-call a.list.now a.tree.now a.messages.now a.work.now source.ensures (to_z-of_z c.ranges.version) a.limit)
    c.read_exactly.ensures
