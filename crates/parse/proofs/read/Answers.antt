-- `parse::read` meets its contract: a tree that the walk read, or what the passes make of the list. Assumes nothing.
use mir.Facts.{to_z-of_z}
use Rattle.parse.proofs.{EntryLaws.{walk-done, walk_kept, walk-left, walk-then}}
use Rattle.parse.proofs.read.Goals as goal
use mir.Syntax.{w16}

pub read_by_passes-requires : goal.read_by_passes-requires
read_by_passes-requires c =
    walk-left c.requires _ _ c.walk.auto.work (walk_kept _ _ _ c.args.used _ _ c.in-None.is c.walk.ensures)

pub returns-in-Some : goal.returns-in-Some
returns-in-Some c =
    let a = c.args in
    walk-done _ _ _ a.source a.version _ a.used _ _ (to_z-of_z {w = w16} c.ranges.version) _ c.in-Some.is c.walk.ensures

pub returns-in-None : goal.returns-in-None
returns-in-None c =
    let a = c.args in
    walk-then _ _ _ a.source a.version _ a.used _ _ _ _ (to_z-of_z {w = w16} c.ranges.version)
    (walk_kept _ _ _ a.used _ _ c.in-None.is c.walk.ensures) c.read_by_passes.ensures
