-- `group::sections_if_used` meets its contract.
use mathlib.Core.Path.{sym, ◌∙◌}
use Rattle.molang.specs.Order.{runs}
use Rattle.grouping.proofs.{FlatOrder.{sectioned-used, sectioned-unused}}
use Rattle.grouping.proofs.group.sections_if_used.Goals as goal

pub returns-then-has_any : goal.returns-then-has_any
unfolding runs
returns-then-has_any c =
    sectioned-used (sym c.has_any.ensures ∙ c.if-has_any.true)
    c.sections.ensures.sectioned

pub returns : goal.returns
returns c =
    unfold runs in sectioned-unused (sym c.has_any.ensures ∙ c.if-has_any.false)
