-- `scan::emit::place` meets its contract. Assumes nothing.
use Rattle.scan.specs.Records.{token_place}
use Rattle.scan.proofs.emit.place.Goals as goal

pub returns : goal.returns
returns c =
    unfold token_place in c.wide.ensures
