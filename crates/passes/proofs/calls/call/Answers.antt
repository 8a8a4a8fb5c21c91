-- `call`: no section after the call, an empty one, or one that it takes (CallLaws).
use mathlib.Core.Path.{sym, ◌∙◌}
use Rattle.molang.specs.Operator.{left_parenthesis}
use Rattle.passes.proofs.CallLaws.{can-attach, can-next, can-call, query-on, query-failed, query-calls}
use Rattle.passes.proofs.calls.call.Goals as goal

pub next_if-requires : goal.next_if-requires
next_if-requires c =
    can-next c.requires

pub returns-in_default : goal.returns-in_default
returns-in_default c =
    query-on (sym c.in_default.is ∙ c.next_if.ensures) _ c.keep.result c.on.result c.keep.ensures.1 c.keep.ensures.0 c.on.ensures

pub is_leaf-requires : goal.is_leaf-requires
is_leaf-requires c =
    (can-attach (can-call left_parenthesis c.in-Some.arguments c.requires (sym c.in-Some.is ∙ c.next_if.ensures))).1

pub returns-then-is_leaf : goal.returns-then-is_leaf
returns-then-is_leaf c =
    query-failed c.in-Some.arguments (sym c.in-Some.is ∙ c.next_if.ensures) (sym c.is_leaf.ensures ∙ c.if-is_leaf.true)

pub called-requires : goal.called-requires
called-requires c =
    can-call left_parenthesis c.in-Some.arguments c.requires (sym c.in-Some.is ∙ c.next_if.ensures)

pub returns : goal.returns
returns c =
    query-calls c.in-Some.arguments (sym c.in-Some.is ∙ c.next_if.ensures) (sym c.is_leaf.ensures ∙ c.if-is_leaf.false) c.called.ensures
