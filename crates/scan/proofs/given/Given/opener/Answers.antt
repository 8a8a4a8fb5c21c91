-- `scan::given::Given::opener` meets its contract. Assumes nothing.
use native.Mathlib.Omega.{arith}
use Rattle.scan.specs.{States.{given, stops}, Turns.{opened_turn}}
use Rattle.scan.proofs.{SettleLaws.{based-ground}, TurnLaws.{then-turn, top_of, settled-stands, two-stand}, SectionLaws.{opener-own}}
use Rattle.scan.proofs.given.Given.opener.Goals as goal

pub settle-s-requires-clause-grounded : goal.settle-s-requires-clause-grounded
settle-s-requires-clause-grounded c = based-ground 268435456 (omega arith) c.requires.stands_free.0.based

pub opened-requires-clause-stands_free : goal.opened-requires-clause-stands_free
opened-requires-clause-stands_free c =
    let b = c.settle-s.ensures in
    let g = settled-stands 268435456 1 (omega arith) c.requires.stands_free.0 b.becomes b.result_value in
    (g, two-stand g (λ e. omega arith))

pub returns-then-s-op : goal.returns-then-s-op
returns-then-s-op c =
    let a = c.args in
    let b = c.settle-s.ensures.becomes in
    let top = top_of b in
    opener-own _ a.op a.at _ (λ e. omega arith) (omega (arith, top))
    (then-turn (opened_turn (given a.self.list.now a.self.table.now a.self.used) a.op a.at) b c.opened.ensures)

pub returns : goal.returns
returns c = stops c.settle-s.ensures.becomes.long
