-- `group::flat` meets its contract.
use Rattle.std.proofs.lemmas.Result.{err_from_is_err_and}
use Rattle.grouping.proofs.FlatOrder.{group-sections, flat-unended, flat-unjoined, flat-sectioned}
use Rattle.grouping.proofs.group.flat.Goals as goal

pub returns-in_err-ends_with_semicolon : goal.returns-in_err-ends_with_semicolon
returns-in_err-ends_with_semicolon c =
    let p = err_from_is_err_and c.from_residual.result c.from_residual.ensures.1 in
    rw (p.1, p.2) (flat-unended c.in_err-ends_with_semicolon.field-0.0 c.in_err-ends_with_semicolon.ensures)

pub returns-in_err-m : goal.returns-in_err-m
returns-in_err-m c =
    let p = err_from_is_err_and c.from_residual-in_err-m.result c.from_residual-in_err-m.ensures.1 in
    rw (p.1, p.2) (flat-unjoined c.in_ok-ends_with_semicolon.ensures c.in_err-m.field-0.0 c.in_err-m.ensures)

pub sections_if_used-requires : goal.sections_if_used-requires
sections_if_used-requires c =
    group-sections c.requires c.in_ok-m.ensures

pub returns : goal.returns
returns c =
    flat-sectioned c.in_ok-ends_with_semicolon.ensures c.in_ok-m.ensures c.sections_if_used.result c.sections_if_used.ensures
