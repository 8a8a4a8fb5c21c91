-- `stackorder::reorder::pass` meets its contract. Assumes nothing.
use native.Mathlib.Omega.{arith}
use Rattle.stackorder.proofs.reorder.pass.Goals as goal

pub copy-requires : goal.copy-requires
copy-requires c = let read = c.requires.can_turn.unread c.requires.left_nonzero in (read, omega arith)

pub next-requires : goal.next-requires
next-requires c = omega (arith, c.requires.can_turn.unread c.requires.left_nonzero)

pub returns : goal.returns
returns c =
    record { value = rw (c.next-2.ensures, c.next.ensures); output_after = c.copy.ensures }
