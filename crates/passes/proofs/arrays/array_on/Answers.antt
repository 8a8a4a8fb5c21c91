-- `array_on`: the array takes its next index, or is closed (ArrayTurns).
use mathlib.Core.Path.{sym, ◌∙◌}
use native.Mathlib.Omega.{arith}
use Rattle.passes.proofs.ArrayTurns.{array-peek, array-can-index, array-indexed, array-can-round, array-room, array-closed}
use Rattle.passes.proofs.arrays.array_on.Goals as goal

pub next_if-requires : goal.next_if-requires
next_if-requires c =
    array-peek c.requires.1 c.requires.0

pub array_index-requires : goal.array_index-requires
array_index-requires c =
    array-can-index c.requires.1 c.in-Some.index (sym c.in-Some.is ∙ c.next_if.ensures) c.requires.0

pub returns-in-Some : goal.returns-in-Some
returns-in-Some c =
    array-indexed c.requires.1 c.in-Some.index (sym c.in-Some.is ∙ c.next_if.ensures) c.array_index.ensures

pub turn_round-requires : goal.turn_round-requires
turn_round-requires c =
    array-can-round c.requires.1 c.requires.0

pub keep-requires : goal.keep-requires
keep-requires c =
    omega (arith, array-room c.requires.1 (sym c.in_default.is ∙ c.next_if.ensures) c.requires.0, c.turn_round.ensures.long)

pub returns : goal.returns
returns c =
    array-closed c.requires.1 (sym c.in_default.is ∙ c.next_if.ensures) _ c.keep.result c.on.result c.turn_round.ensures
    c.keep.ensures.1 c.keep.ensures.0 c.on.ensures
