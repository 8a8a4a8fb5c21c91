-- `sorbrudder::holding::sorbrudder_open` meets its contract: what `open_list` promises, with the answer's number. Assumes nothing.
use mathlib.Core.Path.{sym, subst}
use mir.{Syntax.{w16}, Facts.{to_z-of_z}}
use Rattle.molang.specs.Parse.{Told}
use Rattle.held.proofs.Running.{open_told}
use Rattle.sorbrudder.specs.Numbers.{FitsTold}
use Rattle.sorbrudder.proofs.{HoldingLaws.{open-fits, opened-to}}
use Rattle.sorbrudder.proofs.holding.sorbrudder_open.Goals as goal

pub changed-requires : goal.changed-requires
changed-requires c =
    let opens = rw (to_z-of_z {w = w16} c.ranges.version) at c.open_list-change.ensures in
    subst (λ (o : Told). FitsTold o) (sym (open_told opens)) (open-fits _ _ _ _)

pub returns : goal.returns
returns c =
    let opens = rw (to_z-of_z {w = w16} c.ranges.version) at c.open_list-change.ensures in
    opened-to opens c.changed.ensures.value c.changed.ensures.edits_after
