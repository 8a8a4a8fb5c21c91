-- `scan::emit::is_section` meets its contract. Assumes nothing.
use mathlib.Core.Path.{refl}
use Rattle.scan.specs.Records.{is_section}
use Rattle.scan.proofs.emit.is_section.Goals as goal

pub returns : goal.returns
returns c =
    unfold is_section in refl
