-- `verdicts::read_with` meets its contract: what the reading told and left is the definition's. Assumes nothing.
use mathlib.Core.Path.{◌∙◌}
use mir.Facts.{to_z-of_z}
use Rattle.verdicts.proofs.{VerdictLaws.{read-judged}}
use Rattle.verdicts.proofs.read_with.Goals as goal

pub returns : goal.returns
returns c =
    let parsed = rw (to_z-of_z c.ranges.version) at c.read_exactly-answered.ensures in
    c.judged.ensures ∙ read-judged _ _ _ _ _ c.args.said.now parsed
