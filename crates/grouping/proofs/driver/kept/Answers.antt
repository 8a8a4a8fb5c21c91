-- `kept`: the item goes to the done ones.
use Rattle.grouping.proofs.{ResumeLaws.{keep-room, keep-resumed}}
use Rattle.grouping.proofs.driver.kept.Goals as goal

pub returns : goal.returns
returns c = keep-resumed _ _ c.args.list c.keep.result c.args.pass c.args.item c.requires.0 c.requires.1
    c.keep.ensures.0 c.keep.ensures.1

pub keep-requires : goal.keep-requires
keep-requires c =
    keep-room c.args.list c.args.pass c.requires.0 c.requires.1
