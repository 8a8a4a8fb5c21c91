-- `ops::sets::OpSet::has_any` meets its contract. Assumes nothing.
use mathlib.Core.Path.{◌∙◌}
use Rattle.std.proofs.Common.{rules, tests}
use Rattle.std.proofs.lemmas.Iterator.{YieldsList-from_slice}
use Rattle.std.proofs.lemmas.Iterator.Search.{any_from_yields_List}
use Rattle.molang.specs.Parse.{in_halves}
use Rattle.ops.proofs.{SetLaws.{any-listed}}
use Rattle.ops.proofs.sets.OpSet.has_any.Goals as goal

pub returns : goal.returns
returns c =
    let a = c.args in
    let u = in_halves a.self.low a.self.high in
    any_from_yields_List u _ _ _ c.any.ensures.ran (YieldsList-from_slice a.ops.now cc) (λ x b q k. search (rules, tests)) ∙ any-listed u a.ops.now
