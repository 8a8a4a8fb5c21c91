-- `scan::given::Given::empty` meets its contract. Assumes nothing.
use mathlib.Core.Path.{sym}
use native.Mathlib.Omega.{arith}
use Rattle.scan.specs.States.{view_of}
use Rattle.scan.proofs.{TurnLaws.{two-stand}, SectionLaws.{empty-called, empty-far}}
use Rattle.scan.proofs.given.Given.empty.Goals as goal

pub call-requires : goal.call-requires
unfolding view_of
call-requires c =
    let g = c.requires.stands_free in
    let u = c.requires.up_to in
    let far = empty-far _ _ (view_of _ c.args.s) u.place (c.is_empty_call.ensures c.if-is_empty_call.true _ (sym
    g.sound.top)) in
    let t = g.sound.top in
    record { stands_free = (g, two-stand g (λ e. omega (arith, e, t, far.1))); le_at = (far.0, omega (arith, u.within, c.args.self.few), omega arith) }

pub returns-then-is_empty_call : goal.returns-then-is_empty_call
unfolding view_of
returns-then-is_empty_call c =
    empty-called _ 0 _ _ (c.is_empty_call.ensures c.if-is_empty_call.true _ (sym c.requires.stands_free.sound.top))
    c.call.ensures
