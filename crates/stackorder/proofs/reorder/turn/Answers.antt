-- `stackorder::reorder::turn` meets its contract: a constructor for each way. Assumes nothing.
use mathlib.Core.Path.{sym, ◌∙◌}
use native.Mathlib.Omega.{arith}
use Rattle.stackorder.specs.Reorder.{leaves, passes, enters}
use Rattle.stackorder.proofs.reorder.turn.Goals as goal

pub returns-then-cursor-eq0 : goal.returns-then-cursor-eq0
returns-then-cursor-eq0 c = leaves c.if-cursor-eq0.true c.leave.ensures.value c.leave.ensures.output_after

pub overflow_sub-at : goal.overflow_sub-at
overflow_sub-at c = omega (arith, c.requires.unread c.if-cursor-eq0.false)

pub offset_bounds-words-at : goal.offset_bounds-words-at
offset_bounds-words-at c = omega (arith, c.requires.unread c.if-cursor-eq0.false)

pub bounds-words-at : goal.bounds-words-at
bounds-words-at c =
    omega (arith, c.requires.unread c.if-cursor-eq0.false)

pub returns-then-children-eq0 : goal.returns-then-children-eq0
returns-then-children-eq0 c =
    passes c.if-cursor-eq0.false (sym c.low-children.ensures ∙ c.if-children-eq0.true)
    c.pass.ensures.value c.pass.ensures.output_after

pub returns : goal.returns
returns c =
    enters c.if-cursor-eq0.false (λ e. c.if-children-eq0.false (c.low-children.ensures ∙ e))
    (rw c.low-children.ensures at c.enter.ensures.value) c.enter.ensures.output_after
