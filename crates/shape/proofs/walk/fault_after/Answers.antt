-- `shape::walk::fault_after` meets its contract: word by word, by the laws of the walk. Assumes nothing.
use mathlib.Core.Path.{refl, sym, ◌∙◌}
use native.Mathlib.Omega.{arith}
use Rattle.shape.specs.Answers.{field_of}
use Rattle.shape.proofs.WalkLaws.{goes-fitting, stops, seen-more, ends-whole, ends-short}
use Rattle.shape.proofs.walk.fault_after.Goals as goal

pub returns-then-not-goes_on : goal.returns-then-not-goes_on
returns-then-not-goes_on g c =
    stops g.met.W.Walk.walks c.loop-i.invariant c.loop-i-test.true (sym c.goes_on.ensures ∙ c.if-not-goes_on.true)

pub after-walk-requires : goal.after-walk-requires
after-walk-requires g c =
    let goes = sym c.goes_on.ensures ∙ c.if-not-goes_on.false in
    record { holds = c.loop-i.invariant.holds; fitting = goes-fitting g.W.Walk.fits (field_of c.loop-i.field) c.loop-i.variant c.loop-i.walk _ goes }

pub loop-i-preserved : goal.loop-i-preserved
loop-i-preserved g c =
    seen-more g.met.W.Walk.walks c.loop-i.invariant _ refl c.loop-i-test.true (sym c.goes_on.ensures ∙ c.if-not-goes_on.false)
    c.next-field.ensures c.variant_after-variant.ensures c.after-walk.ensures

pub returns-then-is_whole : goal.returns-then-is_whole
returns-then-is_whole g c =
    ends-whole g.met.W.Walk.walks c.loop-i.invariant (omega (arith, c.loop-i.invariant.within, c.loop-i-test.false)) (sym c.is_whole.ensures ∙ c.if-is_whole.true)

pub returns-else-is_whole : goal.returns-else-is_whole
returns-else-is_whole g c =
    ends-short g.met.W.Walk.walks c.loop-i.invariant (omega (arith, c.loop-i.invariant.within, c.loop-i-test.false)) (sym c.is_whole.ensures ∙ c.if-is_whole.false)
