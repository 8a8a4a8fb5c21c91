-- `liftcount::step::version_in` meets its contract. Assumes nothing.
use mathlib.Core.Path.{◌∙◌}
use mir.{Syntax.{w16}, Facts.{to_z-of_z}}
use Rattle.liftcount.proofs.{StepLaws.{version-said, version-fault}}
use Rattle.liftcount.proofs.step.version_in.Goals as goal

pub returns-then-w-lt-PAST_VERSIONS : goal.returns-then-w-lt-PAST_VERSIONS
returns-then-w-lt-PAST_VERSIONS c =
    let version = to_z-of_z {w = w16} {z = c.version_of.result} (record { sfits = c.version_of.type_inv }) ∙ c.version_of.ensures in
    version-said c.args.w c.if-w-lt-PAST_VERSIONS.true version

pub returns : goal.returns
returns c = rw c.at.ensures (version-fault c.args.w c.if-w-lt-PAST_VERSIONS.false)
