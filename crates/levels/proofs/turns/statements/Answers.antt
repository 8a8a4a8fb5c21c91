-- `statements`: the first word says whether the list is split.
use Rattle.levels.proofs.{States.{split-none, split-some}}
use Rattle.levels.proofs.turns.statements.Goals as goal

pub returns-then-split-eq0 : goal.returns-then-split-eq0
returns-then-split-eq0 c =
    split-none _ c.args.done c.if-split-eq0.true

pub returns : goal.returns
returns c =
    split-some _ c.args.done c.if-split-eq0.false
