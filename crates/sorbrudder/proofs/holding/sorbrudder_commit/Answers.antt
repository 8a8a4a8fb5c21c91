-- `sorbrudder::holding::sorbrudder_commit` meets its contract: what `commit_edit` promises, with the answer's number. Assumes nothing.
use mathlib.Core.Path.{sym, subst}
use mir.Facts.{to_z-of_z}
use Rattle.molang.specs.Parse.{Told}
use Rattle.held.{proofs.Running.{commit-told}}
use Rattle.sorbrudder.specs.{Numbers.{FitsTold}}
use Rattle.sorbrudder.proofs.{HoldingLaws.{commit-fits, committed-to}}
use Rattle.sorbrudder.proofs.holding.sorbrudder_commit.Goals as goal
use mir.Syntax.{w16}

pub changed-requires : goal.changed-requires
changed-requires c =
    let commits = rw (to_z-of_z {w = w16} c.ranges.version) at c.commit_edit-change.ensures in
    subst (λ (o : Told). FitsTold o) (sym (commit-told commits)) (commit-fits _ _ _ _)

pub returns : goal.returns
returns c =
    let commits = rw (to_z-of_z {w = w16} c.ranges.version) at c.commit_edit-change.ensures in
    committed-to commits c.changed.ensures.value (rw (to_z-of_z {w = w16} c.ranges.version) at c.changed.ensures.edits_after)
