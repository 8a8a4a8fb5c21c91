-- `group::members_if_used` meets its contract.
use mathlib.Core.Path.{sym, ◌∙◌}
use Rattle.molang.specs.Order.{runs}
use Rattle.ops.proofs.SetLaws.{one-used}
use Rattle.grouping.proofs.{FlatOrder.{joined-used, joined-unused}}
use Rattle.grouping.proofs.group.members_if_used.Goals as goal

pub returns-then-contains : goal.returns-then-contains
unfolding runs
returns-then-contains c =
    joined-used
    (sym (c.contains.ensures ∙ one-used _ _) ∙ c.if-contains.true)
    c.members.ensures

pub returns : goal.returns
returns c =
    unfold runs in joined-unused (sym (c.contains.ensures ∙ one-used _ _) ∙ c.if-contains.false)
