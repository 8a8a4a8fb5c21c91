-- `ops::version::is_from_6` meets its contract: a signed comparison with a literal. Assumes nothing.
use mir.Facts.{to_z-of_z}
use Rattle.ops.proofs.{VersionLaws.{from}}
use Rattle.ops.proofs.version.is_from_6.Goals as goal

pub returns : goal.returns
returns c =
    rw (to_z-of_z c.ranges.version) (from 6 c.args.version)
