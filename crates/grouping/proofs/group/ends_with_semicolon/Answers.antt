-- `group::ends_with_semicolon` meets its contract.
use mathlib.Core.Path.{sym, ◌∙◌}
use native.Mathlib.Omega.{arith}
use Rattle.molang.specs.Order.{runs}
use Rattle.grouping.proofs.FlatOrder.{last-token, last-unused, last-missing, last-semicolon, last-other}
use Rattle.grouping.proofs.group.ends_with_semicolon.Goals as goal

pub returns-then-n-eq0 : goal.returns-then-n-eq0
returns-then-n-eq0 c = unfold runs in last-missing (sym c.has_any.ensures ∙ c.if-has_any.true) c.if-n-eq0.true

pub bounds-work-base : goal.bounds-work-base
bounds-work-base c = let g = c.requires in omega (arith, g.based, g.room, c.if-n-eq0.false)

pub operator_of-requires : goal.operator_of-requires
operator_of-requires c =
    let g = c.requires in
    omega (arith, (last-token g c.if-n-eq0.false).below, g.based, g.room)

pub returns-then-operator_of-ne-SEMICOLON : goal.returns-then-operator_of-ne-SEMICOLON
unfolding runs
returns-then-operator_of-ne-SEMICOLON c =
    last-other (sym c.has_any.ensures ∙ c.if-has_any.true)
    c.if-n-eq0.false
    (λ e. c.if-operator_of-ne-SEMICOLON.true (c.operator_of.ensures ∙ e))

pub returns-else-operator_of-ne-SEMICOLON : goal.returns-else-operator_of-ne-SEMICOLON
unfolding runs
returns-else-operator_of-ne-SEMICOLON c =
    last-semicolon (sym c.has_any.ensures ∙ c.if-has_any.true)
    c.if-n-eq0.false
    (sym c.operator_of.ensures ∙ c.if-operator_of-ne-SEMICOLON.false)

pub overflow_add-last : goal.overflow_add-last
overflow_add-last c =
    let g = c.requires in omega (arith, g.based, g.room, g.small)

pub overflow_sub-last : goal.overflow_sub-last
overflow_sub-last c =
    omega (arith, c.if-n-eq0.false)

pub offset_bounds-work-base : goal.offset_bounds-work-base
offset_bounds-work-base c =
    let g = c.requires in omega (arith, g.based, g.room, g.small)

pub returns-else-has_any : goal.returns-else-has_any
returns-else-has_any c =
    unfold runs in last-unused (sym c.has_any.ensures ∙ c.if-has_any.false)
