-- `resume`, arm by arm: the item goes to the done ones, or the level takes it.
use Rattle.grouping.proofs.ResumeLaws.{right-room, right-resumed, resume-at, resumed-by, array-unlent, keeping_at}
use Rattle.grouping.proofs.driver.resume.Goals as goal
use borrow.Enum.Refused.{opened}

pub resume_array-requires : goal.resume_array-requires
resume_array-requires c =
    resume-at c.args.walk.list c.args.walk.pass _
    (array-unlent c.args.walk.list _ _ _ c.in-Arrays.is c.requires) c.requires

pub keep_right-requires : goal.keep_right-requires
keep_right-requires c =
    right-room c.args.walk.list (resume-at c.args.walk.list c.args.walk.pass _ c.in-Unary.is c.requires)

pub resume-requires : goal.resume-requires
resume-requires c =
    resume-at c.args.walk.list c.args.walk.pass _ c.in-Binary.is c.requires

pub kept-requires : goal.kept-requires
kept-requires c = (c.requires, keeping_at c.args.walk.pass (opened c.in_default.in_default-own.keys4))

pub returns-in-Arrays : goal.returns-in-Arrays
returns-in-Arrays c =
    resumed-by c.args.walk.list c.args.walk.pass _
    (array-unlent c.args.walk.list _ _ _ c.in-Arrays.is c.requires)
    c.resume_array.ensures

pub returns-in-Unary : goal.returns-in-Unary
returns-in-Unary c =
    let told = c.in-Unary.is in
    let kept = c.keep_right in
    resumed-by c.args.walk.list c.args.walk.pass _ told
    (right-resumed _ _ c.args.walk.list kept.result c.args.item
    (resume-at c.args.walk.list c.args.walk.pass _ told c.requires) kept.ensures.0 kept.ensures.1)

pub returns-in-Binary : goal.returns-in-Binary
returns-in-Binary c =
    resumed-by c.args.walk.list c.args.walk.pass _ c.in-Binary.is
    c.resume.ensures
