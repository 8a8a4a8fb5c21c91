-- `ops::version::effective` meets its contract: the raw version between the invalid and the latest. Assumes nothing.
use mathlib.Core.Path.{◌∙◌}
use mir.{Facts.{to_z-of_z}, Syntax.{w16}, Val.{SFits}}
use Rattle.ops.proofs.{VersionLaws.{clamped}}
use Rattle.ops.proofs.version.effective.Goals as goal

pub returns : goal.returns
returns c =
    let fits : SFits w16 c.clamp.result = record { sfits = c.clamp.type_inv } in
    to_z-of_z fits ∙ (rw (to_z-of_z c.ranges.raw) at c.clamp.ensures.value) ∙ clamped c.args.raw
