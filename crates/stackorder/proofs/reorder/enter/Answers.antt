-- `stackorder::reorder::enter` meets its contract. Assumes nothing.
use mathlib.Core.Path.{refl}
use native.Mathlib.Omega.{arith}
use lib.ListN.{length-set}
use Rattle.stackorder.proofs.reorder.enter.Goals as goal

pub next-requires : goal.next-requires
next-requires c = omega (arith, c.requires.can_turn.unread c.requires.left_nonzero)

pub bounds-output-at-2 : goal.bounds-output-at-2
bounds-output-at-2 c =
    simp length-set (omega arith)

pub returns : goal.returns
returns c =
    record { value = rw (c.next-2.ensures, c.turned.ensures, c.next.ensures); output_after = refl }
