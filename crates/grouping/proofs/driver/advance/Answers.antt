-- `advance`: the level's turn, and what the driver makes of it.
use Rattle.std.proofs.lemmas.Result.{err_from_is_err_and}
use Rattle.grouping.proofs.AdvanceLaws.{turned-at, advance-can-descend, advance-can-close, advanced-on, advanced-fail, advanced-enter}
use Rattle.grouping.proofs.AdvanceLaws.{advanced-close}
use Rattle.grouping.proofs.driver.advance.Goals as goal

pub returns-in_err-after : goal.returns-in_err-after
returns-in_err-after c =
    let p = err_from_is_err_and c.from_residual.result c.from_residual.ensures.1 in
    rw (p.1, p.2) (advanced-fail c.in_err-after.ensures)

pub descend-requires : goal.descend-requires
descend-requires c =
    advance-can-descend c.requires _ _ (turned-at c.in_ok-after.field-0 _ c.in-Enter.is c.in_ok-after.ensures)

pub close-requires : goal.close-requires
close-requires c =
    advance-can-close c.requires _ (turned-at c.in_ok-after.field-0 _ c.in-Over.is c.in_ok-after.ensures)

pub returns-in-On : goal.returns-in-On
returns-in-On c =
    advanced-on (turned-at c.in_ok-after.field-0 _ c.in-On.is c.in_ok-after.ensures)

pub returns-in-Enter : goal.returns-in-Enter
returns-in-Enter c =
    advanced-enter (turned-at c.in_ok-after.field-0 _ c.in-Enter.is c.in_ok-after.ensures) c.descend.ensures

pub returns-in-Over : goal.returns-in-Over
returns-in-Over c =
    advanced-close (turned-at c.in_ok-after.field-0 _ c.in-Over.is c.in_ok-after.ensures) c.close.ensures
