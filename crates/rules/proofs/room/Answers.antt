-- `rules::room` meets its contract: answers 1 to 5, then 16. Assumes nothing.
use native.Mathlib.Omega.{arith}
use Rattle.std.proofs.lemmas.Result.{err_from_is_err_and}
use Rattle.accept.proofs.AcceptLaws.{refused-first}
use Rattle.rules.specs.Numbering.{room_refusal}
use Rattle.rules.proofs.{EntryLaws.{room-short, room_fits}}
use Rattle.rules.proofs.room.Goals as goal

pub returns-in_err-n : goal.returns-in_err-n
unfolding room_refusal
returns-in_err-n c =
    let p = err_from_is_err_and c.from_residual.result c.from_residual.ensures.1 in
    rw (p.1, p.2) (refused-first _ _ _ _ c.in_err-n.ensures)

pub returns-then-bytes-n : goal.returns-then-bytes-n
returns-then-bytes-n c =
    let a = c.args in
    rw c.at.ensures (room-short a.list.now a.sizes a.bytes _ c.in_ok-n.ensures (omega arith))

pub returns : goal.returns
returns c =
    let a = c.args in
    room_fits a.list.now a.sizes a.bytes _ c.in_ok-n.ensures (omega arith)
