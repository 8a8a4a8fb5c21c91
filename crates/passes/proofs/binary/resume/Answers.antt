-- `resume`: no operator waits, or one takes its right side (BinaryLaws).
use Rattle.passes.proofs.{BinaryLaws.{resume-room, resume-folds, resumed-kept, resumed-folded}}
use Rattle.passes.proofs.binary.resume.Goals as goal

pub returns-then-pending-eq0 : goal.returns-then-pending-eq0
returns-then-pending-eq0 c =
    resumed-kept c.args.classes c.keep.result
    c.if-pending-eq0.true c.keep.ensures.1 c.keep.ensures.0

pub fold-requires : goal.fold-requires
fold-requires c = resume-folds c.args.classes c.if-pending-eq0.false c.requires

pub returns : goal.returns
returns c =
    resumed-folded c.args.classes c.if-pending-eq0.false
    c.fold.ensures

pub keep-requires : goal.keep-requires
keep-requires c =
    resume-room c.args.classes c.requires
