-- `math_call`: a section that it takes, the list's end, or another item (CallLaws).
use mathlib.Core.Path.{sym, ◌∙◌}
use Rattle.molang.specs.Operator.{left_parenthesis}
use Rattle.passes.proofs.CallLaws.{can-next, can-call, math-calls, math-ended, math-failed}
use Rattle.passes.proofs.calls.math_call.Goals as goal

pub next_if-requires : goal.next_if-requires
next_if-requires c =
    can-next c.requires

pub called-requires : goal.called-requires
called-requires c =
    can-call left_parenthesis c.in-Some.arguments c.requires (sym c.in-Some.is ∙ c.next_if.ensures)

pub returns-in-Some : goal.returns-in-Some
returns-in-Some c =
    math-calls c.in-Some.arguments (sym c.in-Some.is ∙ c.next_if.ensures) c.called.ensures

pub returns-then-list : goal.returns-then-list
returns-then-list c =
    math-ended (sym c.in_default.is ∙ c.next_if.ensures) c.if-list.true

pub returns : goal.returns
returns c =
    math-failed (sym c.in_default.is ∙ c.next_if.ensures) c.if-list.false
