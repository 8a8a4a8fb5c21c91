-- `group::group` meets its contract.
use mir.Facts.{to_z-of_z}
use Rattle.std.proofs.lemmas.Result.{err_from_is_err_and}
use Rattle.grouping.proofs.LevelLaws.{levelled-at, group-ends, group-gives, group-levels, group-done}
use Rattle.grouping.proofs.group.group.Goals as goal

pub returns-in_err-m : goal.returns-in_err-m
returns-in_err-m c =
    let p = err_from_is_err_and c.from_residual.result c.from_residual.ensures.1 in
    rw (p.1, p.2) (group-ends c.in_err-m.field-0.0 c.args.version c.in_err-m.ensures)

pub give_children-requires : goal.give_children-requires
give_children-requires c =
    group-gives c.in_ok-m.m c.in_ok-m.ensures c.requires

pub levels-requires : goal.levels-requires
levels-requires c =
    group-levels c.in_ok-m.m c.in_ok-m.ensures c.give_children.ensures c.requires

pub returns : goal.returns
returns c =
    group-done c.in_ok-m.m c.in_ok-m.ensures c.give_children.ensures (levelled-at (to_z-of_z c.ranges.version) c.levels.ensures)
