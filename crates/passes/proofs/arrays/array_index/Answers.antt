-- `array_index`: an empty index, or one that is entered, by what `lend_name` lends it.
use mathlib.Core.Path.{refl, sym, ◌∙◌}
use Rattle.passes.specs.Arrays.{empty}
use Rattle.passes.proofs.ArrayGrowing.{index-opens}
use Rattle.passes.proofs.arrays.array_index.Goals as goal

pub returns-then-is_leaf : goal.returns-then-is_leaf
returns-then-is_leaf c =
    empty (sym c.is_leaf.ensures ∙ c.if-is_leaf.true) refl refl

pub returns : goal.returns
returns c =
    index-opens c.past.result (sym c.is_leaf.ensures ∙ c.if-is_leaf.false) c.lend_name.ensures c.unwrap_or-lent.ensures
    c.past.ensures c.enter.ensures
