-- `dangling`: the first item that dangles, or none (ConditionalDangling).
use mathlib.Core.Path.{sym, ◌∙◌}
use Rattle.std.proofs.Common.{rules, tests}
use Rattle.std.proofs.lemmas.Iterator.{YieldsList-from_slice}
use Rattle.std.proofs.lemmas.Iterator.Adapters.{serves_from_places, option_map_id}
use Rattle.std.proofs.lemmas.Iterator.Consumers.{YieldsList-at, YieldsList-from_copied}
use Rattle.std.proofs.lemmas.Iterator.Search.{find_from_yields_List}
use Rattle.passes.proofs.ConditionalDangling.{dangles_at, dangle-slot, dangles}
use Rattle.passes.proofs.conditional.dangling.Goals as goal

pub find-requires-clause-callable : goal.find-requires-clause-callable
find-requires-clause-callable c =
    serves_from_places
    (YieldsList-from_copied (YieldsList-at c.copied.ensures.source (YieldsList-from_slice _ c.iter.ensures.rest)))
    (λ x q k. search (rules, tests)) (λ x k h e y s. search (dangle-slot c.requires k x h e y.now s))

pub returns : goal.returns
returns c =
    let e =
    find_from_yields_List (dangles_at c.args.work.now) _ _ c.find.result c.find.ensures.ran
    (YieldsList-from_copied (YieldsList-at c.copied.ensures.source (YieldsList-from_slice _ c.iter.ensures.rest)))
    (λ x b q k. search (rules, tests)) in
    rw (sym (option_map_id c.find.result) ∙ e) dangles
