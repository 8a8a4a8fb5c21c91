-- `folded`: the right side's children come first, or it is taken as it is (BinaryLaws).
use mathlib.Core.Path.{refl, sym, ◌∙◌}
use Rattle.passes.proofs.BinaryLaws.{operate-room, operate-folds, operated-opens, operated-folds}
use Rattle.passes.proofs.binary.folded.Goals as goal

pub fold-requires : goal.fold-requires
fold-requires c =
    operate-folds c.past-after.result c.requires
    c.past-after.ensures

pub returns-then-is_inner : goal.returns-then-is_inner
returns-then-is_inner c =
    operated-opens c.past-after.result (sym c.is_inner.ensures ∙ c.if-is_inner.true)
    refl c.past-after.ensures c.enter.ensures

pub returns-else-is_inner : goal.returns-else-is_inner
returns-else-is_inner c =
    operated-folds c.past-after.result
    (sym c.is_inner.ensures ∙ c.if-is_inner.false)
    c.fold.ensures c.past-after.ensures
    c.on.ensures

pub is_inner-requires : goal.is_inner-requires
is_inner-requires c =
    (operate-room c.requires).0
