-- `array_name`: the name stays as it is, or is an array with its first index (ArrayTurns).
use mathlib.Core.Path.{sym, ◌∙◌}
use Rattle.passes.proofs.{GatherLaws.{token-room}, CallLaws.{can-next}, ArrayTurns.{name-kept, name-can-index, name-indexed}}
use Rattle.passes.proofs.arrays.array_name.Goals as goal

pub next_if-requires : goal.next_if-requires
next_if-requires c =
    can-next c.requires

pub returns-in_default : goal.returns-in_default
returns-in_default c =
    name-kept (sym c.in_default.is ∙ c.next_if.ensures) _ c.keep.result c.on.result c.keep.ensures.1 c.keep.ensures.0 c.on.ensures

pub set_operator-requires : goal.set_operator-requires
set_operator-requires c =
    (token-room c.requires).0

pub array_index-requires : goal.array_index-requires
array_index-requires c =
    name-can-index c.in-Some.index (sym c.in-Some.is ∙ c.next_if.ensures) c.set_operator.ensures c.requires

pub returns : goal.returns
returns c =
    name-indexed c.in-Some.index (sym c.in-Some.is ∙ c.next_if.ensures) c.set_operator.ensures c.array_index.ensures
