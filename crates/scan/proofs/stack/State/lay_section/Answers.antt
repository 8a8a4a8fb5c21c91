-- `scan::stack::State::lay_section` meets its contract. Assumes nothing.
use native.Mathlib.Omega.{arith}
use Rattle.scan.specs.{Views.{read_from}, States.{view_of}}
use Rattle.scan.proofs.{SectionLaws.{pop-deep, pop-out, section-laid, section-free}}
use Rattle.scan.proofs.stack.State.lay_section.Goals as goal

pub lay-requires : goal.lay-requires
lay-requires c =
    let g = c.requires.stands_free in
    let d = pop-deep g.0.sound g.1 c.pop-below.ensures in
    let o = pop-out g.0.sound g.1 c.pop-below.ensures in
    let s = c.pop-below.ensures.sound in
    (record { apart = s.apart; within = s.within; top = s.top }, omega (arith, d, o, g.0.room))

pub returns : goal.returns
unfolding view_of read_from
returns c =
    let g = c.requires.stands_free in
    record { becomes = section-laid g.0.sound g.1 c.pop-below.ensures _ _ c.lay.ensures; result_value = section-free g.0.sound g.1 c.pop-below.ensures _ _ g.0.sound.apart c.lay.ensures }
