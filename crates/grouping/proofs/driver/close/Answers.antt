-- `close`: the list's end, its owner's children, and the list below it, if any.
use mathlib.Core.Path.{refl}
use Rattle.std.proofs.lemmas.Result.{err_from_is_err_and}
use Rattle.grouping.proofs.CloseLaws.{closed-failed, close-can-give, close-can-move, close-can-pop, close-can-resume, ended-ok}
use Rattle.grouping.proofs.CloseLaws.{closed-done, closed_on}
use Rattle.grouping.proofs.driver.close.Goals as goal

pub returns-in_err-finished : goal.returns-in_err-finished
returns-in_err-finished c =
    let p = err_from_is_err_and c.from_residual.result c.from_residual.ensures.1 in
    rw (p.1, p.2) (closed-failed _ c.in_err-finished.ensures c.in_err-finished.field-0.0 refl)

pub give_children-requires : goal.give_children-requires
give_children-requires c =
    close-can-give c.requires (ended-ok c.in_ok-finished.finished c.in_ok-finished.ensures)

pub move_down-requires : goal.move_down-requires
move_down-requires c =
    close-can-move c.requires (ended-ok c.in_ok-finished.finished c.in_ok-finished.ensures) c.give_children.ensures

pub returns-then-base-base0 : goal.returns-then-base-base0
returns-then-base-base0 c =
    closed-done (ended-ok c.in_ok-finished.finished c.in_ok-finished.ensures) c.give_children.ensures c.move_down.ensures c.if-base-base0.true

pub pop-frame-requires : goal.pop-frame-requires
pop-frame-requires c =
    close-can-pop c.requires (ended-ok c.in_ok-finished.finished c.in_ok-finished.ensures) c.give_children.ensures c.if-base-base0.false

pub resume-requires : goal.resume-requires
resume-requires c =
    let pop = c.pop-frame in
    let resumed = c.resumed-pass in
    close-can-resume c.requires (ended-ok c.in_ok-finished.finished c.in_ok-finished.ensures) c.give_children.ensures c.if-base-base0.false
    pop.result resumed.result pop.ensures resumed.ensures

pub returns : goal.returns
returns c =
    let pop = c.pop-frame in
    let resumed = c.resumed-pass in
    closed_on (ended-ok c.in_ok-finished.finished c.in_ok-finished.ensures) c.give_children.ensures c.if-base-base0.false
    pop.result resumed.result pop.ensures resumed.ensures c.resume.ensures
