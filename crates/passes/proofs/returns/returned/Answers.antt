-- `returned`: at the end of the list, and with a tree after it (ReturnLaws).
use mathlib.Core.Path.{refl}
use Rattle.passes.proofs.{GatherLaws.{token-room, next-room}, ReturnLaws.{returned-end, returned-turn}}
use Rattle.passes.proofs.returns.returned.Goals as goal

pub attach-requires : goal.attach-requires
attach-requires c =
    ((token-room c.requires).0, (next-room c.requires c.if-list.false).1)

pub returns : goal.returns
returns c =
    let left = c.if-list.false in
    let attach = c.attach in
    let past = c.past-after in
    let keep = c.keep in
    returned-turn keep.new.work c.args.list c.args.item _ refl (next-room c.requires left).0 attach.ensures
    (rw past.ensures at keep.ensures.1)
    past.result keep.result c.on.result past.ensures keep.ensures.0 c.on.ensures

pub returns-then-list : goal.returns-then-list
returns-then-list c =
    let a = c.args in returned-end _ a.list a.item c.if-list.true
