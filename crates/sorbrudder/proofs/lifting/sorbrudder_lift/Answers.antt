-- `sorbrudder::lifting::sorbrudder_lift` meets its contract: what `lift_entry` promises, with the answer's number. Assumes nothing.
use mathlib.Core.{Path.{sym, subst}}
use mir.Facts.{to_z-of_z}
use Rattle.lift.specs.Entry.{LotTold}
use Rattle.sorbrudder.specs.Lifting.{FitsLot}
use Rattle.sorbrudder.proofs.{LiftingLaws.{entry-fits, lifted-to}}
use Rattle.sorbrudder.proofs.lifting.sorbrudder_lift.Goals as goal
use mir.Syntax.{w16}

pub lifted_number-requires : goal.lifted_number-requires
lifted_number-requires c =
    let enters = rw (to_z-of_z {w = w16} c.ranges.to) at (rw (to_z-of_z {w = w16} c.ranges.from) at c.lift_entry-lot.ensures) in
    subst (λ (t : LotTold). FitsLot t) (sym enters.told) (entry-fits _)

pub returns : goal.returns
returns c =
    let enters = rw (to_z-of_z {w = w16} c.ranges.to) at (rw (to_z-of_z {w = w16} c.ranges.from) at c.lift_entry-lot.ensures) in
    lifted-to enters c.lifted_number.ensures
