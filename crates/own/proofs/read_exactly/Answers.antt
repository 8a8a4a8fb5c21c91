-- `own::read_exactly` meets its contract: the call's two halves are the operators that the list's words name. Assumes nothing.
use borrow.Author.Rules.{rules}
use mir.Facts.{to_z-of_z}
use Rattle.own.proofs.{CallLaws.{same-call, named-call}}
use Rattle.own.proofs.read_exactly.Goals as goal

pub returns : goal.returns
returns c =
    let a = c.args in
    let used = c.used_of-used in
    same-call
    (named-call a.list.now a.tree.now a.messages.now a.work.now a.source_length used.result.low used.result.high
    (search rules) used.ensures (to_z-of_z c.ranges.version) a.limit)
    c.parse.ensures
