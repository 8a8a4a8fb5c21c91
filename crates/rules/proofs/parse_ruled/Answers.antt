-- `rules::parse_ruled` meets its contract: a call that answers 1 to 5 or 16 turn back, or one that is read as without the buffer, and whose
-- nodes are numbered. Assumes nothing.
use mir.{Syntax.{w16}, Facts.{to_z-of_z}}
use Rattle.std.proofs.lemmas.Result.{err_from_is_err_and}
use Rattle.rules.proofs.EntryLaws.{room-refuses, lets-through, can-number, refused-meets, turned_meets, read_meets}
use Rattle.rules.proofs.parse_ruled.Goals as goal

pub returns-in_err-room : goal.returns-in_err-room
returns-in_err-room c =
    let p = err_from_is_err_and c.from_residual.result c.from_residual.ensures.1 in
    rw (p.1, p.2) (refused-meets _ _ (room-refuses _ _ _ _ c.in_err-room.ensures))

pub returns-in_err-answer : goal.returns-in_err-answer
returns-in_err-answer c =
    let p = err_from_is_err_and c.from_residual-in_err-answer.result c.from_residual-in_err-answer.ensures.1 in
    rw (p.1, p.2)
    (turned_meets _ _ _ _ (lets-through _ _ _ c.in_ok-room.ensures) _ (rw (to_z-of_z {w = w16} c.ranges.version) at c.in_err-answer.ensures))

pub number-requires : goal.number-requires
number-requires c =
    can-number _ _ _ _ _ (lets-through _ _ _ c.in_ok-room.ensures) (rw (to_z-of_z {w = w16} c.ranges.version) at c.in_ok-answer.ensures) c.parse.auto.tree

pub returns : goal.returns
returns c =
    read_meets _ _ _ _ (lets-through _ _ _ c.in_ok-room.ensures) _ _ (rw (to_z-of_z {w = w16} c.ranges.version) at c.in_ok-answer.ensures)
    (rw (to_z-of_z {w = w16} c.ranges.version) at c.number.ensures)
