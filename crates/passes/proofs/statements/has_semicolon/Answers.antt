-- `has_semicolon`: whether one of the items' slots is a semicolon's (StatementLaws).
use Rattle.std.proofs.Common.{rules, tests}
use Rattle.std.proofs.lemmas.Iterator.{YieldsList-from_slice}
use Rattle.std.proofs.lemmas.Iterator.Adapters.{serves_from_places}
use Rattle.std.proofs.lemmas.Iterator.Search.{any_from_yields_List}
use Rattle.molang.specs.Operator.{semicolon}
use Rattle.nodes.specs.Slots.{is_token_at}
use Rattle.passes.proofs.StatementLaws.{look-slot, looked}
use Rattle.passes.proofs.statements.has_semicolon.Goals as goal

pub any-requires-clause-callable : goal.any-requires-clause-callable
any-requires-clause-callable c =
    serves_from_places (YieldsList-from_slice _ c.iter.ensures.rest) (λ x q k. search (rules, tests))
    (λ x k h e. search (look-slot c.requires k x.now h e))

pub returns : goal.returns
returns c =
    let e = any_from_yields_List (λ s. is_token_at c.args.work.now s semicolon) _ _ _ c.any.ensures.ran
    (YieldsList-from_slice _ c.iter.ensures.rest) (λ x b q k. search (rules, tests)) in
    rw e looked
