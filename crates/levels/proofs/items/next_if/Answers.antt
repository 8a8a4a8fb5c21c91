-- `next_if`, by the item's operator word.
use native.Mathlib.Omega.{arith}
use Rattle.levels.proofs.{Reading.{next-if-end, next-if-found, next-if-other}}
use mathlib.Core.Path.{sym, ◌∙◌}
use Rattle.levels.proofs.items.next_if.Goals as goal

pub operator_of-requires : goal.operator_of-requires
operator_of-requires c =
    c.requires.slot (omega (arith, c.if-list.false))

pub returns-then-operator_of-op : goal.returns-then-operator_of-op
returns-then-operator_of-op c =
    let a = c.args in
    next-if-found _ a.list a.op c.if-list.false (sym c.operator_of.ensures ∙ c.if-operator_of-op.true)

pub returns : goal.returns
returns c =
    let a = c.args in
    next-if-other _ a.list a.op c.if-list.false (λ e. c.if-operator_of-op.false (c.operator_of.ensures ∙ e))

pub returns-then-list : goal.returns-then-list
returns-then-list c =
    let a = c.args in next-if-end _ a.list a.op c.if-list.true
