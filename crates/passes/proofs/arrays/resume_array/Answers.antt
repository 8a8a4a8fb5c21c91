-- `resume_array`: the list or the array takes the item back (ArrayTurns).
use Rattle.passes.proofs.ArrayTurns.{resume-room, resume-gathers, resumed-kept, resumed-gathered}
use Rattle.passes.proofs.arrays.resume_array.Goals as goal

pub returns-then-array-eq0 : goal.returns-then-array-eq0
returns-then-array-eq0 c =
    resumed-kept c.if-array-eq0.true c.keep.ensures.1 c.keep.result c.keep.ensures.0

pub returns : goal.returns
returns c = resumed-gathered c.if-array-eq0.false c.gather.ensures

pub keep-requires : goal.keep-requires
keep-requires c =
    resume-room c.requires

pub gather-requires : goal.gather-requires
gather-requires c =
    resume-gathers c.if-array-eq0.false c.requires
