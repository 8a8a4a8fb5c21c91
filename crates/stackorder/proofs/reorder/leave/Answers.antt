-- `stackorder::reorder::leave` meets its contract. Assumes nothing.
use native.Mathlib.Omega.{arith}
use Rattle.stackorder.proofs.reorder.leave.Goals as goal

pub overflow_sub-at : goal.overflow_sub-at
overflow_sub-at c = omega (arith, c.requires.can_turn.waits c.requires.left_value, c.next-top.ensures)

pub offset_bounds-output-at : goal.offset_bounds-output-at
offset_bounds-output-at c = omega (arith, c.requires.can_turn.waits c.requires.left_value, c.next-top.ensures)

pub bounds-output-at : goal.bounds-output-at
bounds-output-at c =
    omega (arith, c.requires.can_turn.waits c.requires.left_value, c.next-top.ensures)

pub offset_bounds-output-at-2 : goal.offset_bounds-output-at-2
offset_bounds-output-at-2 c =
    omega (arith, c.requires.can_turn.waits c.requires.left_value, c.next-top.ensures)

pub bounds-output-at-2 : goal.bounds-output-at-2
bounds-output-at-2 c =
    omega (arith, c.requires.can_turn.waits c.requires.left_value, c.next-top.ensures)

pub returns : goal.returns
returns c =
    record { value = rw (c.next.ensures, c.wide-node.ensures, c.next-top.ensures); output_after = c.copy.ensures }
