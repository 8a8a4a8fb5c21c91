-- `scan::given::Given::opened` meets its contract. Assumes nothing.
use native.Mathlib.Omega.{arith}
use Rattle.scan.proofs.{SectionLaws.{opened-plain, opened-call, callable-far}}
use Rattle.scan.proofs.given.Given.opened.Goals as goal

pub returns-then-is_plain : goal.returns-then-is_plain
returns-then-is_plain c =
    opened-plain _ _ _ _ c.is_plain.ensures c.if-is_plain.true c.section.ensures

pub call-requires-clause-le_at : goal.call-requires-clause-le_at
call-requires-clause-le_at c =
    let u = c.requires.up_to in
    (callable-far _ _ u.place (c.is_callable.ensures c.if-is_callable.true), omega (arith, u.within, c.args.self.few), omega arith)

pub returns-then-is_callable : goal.returns-then-is_callable
returns-then-is_callable c =
    opened-call _ _ _ _ c.is_plain.ensures c.if-is_plain.false (c.is_callable.ensures c.if-is_callable.true)
    c.call.ensures
