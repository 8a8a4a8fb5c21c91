-- `derived::highest_end` meets its contract. The loop's invariant: the highest end of the words that are left, after what was seen so far,
-- is that of all. The measure is what is left of the words. Assumes nothing.
use Prim.Native.Nat.{ℕ, ◌+◌}
use mathlib.Core.Path.{sym, ap, ◌∙◌}
use native.Mathlib.Omega.{arith}
use lib.ListN.{drop}
use Rattle.molang.specs.Words.{end_field}
use Rattle.derived.specs.Derived.{highest}
use Rattle.derived.proofs.{WordLaws.{from-third, highest-on, highest-end}}
use Rattle.derived.proofs.highest_end.Goals as goal

pub loop-i-preserved : goal.loop-i-preserved
loop-i-preserved c =
    let list = c.args.list.now in
    ap (λ (m : ℕ). highest end_field m (drop (c.loop-i.i + 5) list)) c.higher-end.ensures
    ∙ (sym (highest-on list c.loop-i.i c.loop-i-test.true c.loop-i.end) ∙ c.loop-i.invariant)

pub returns : goal.returns
returns c =
    let list = c.args.list.now in
    sym (highest-end list c.loop-i.i c.loop-i-test.false c.loop-i.end) ∙ c.loop-i.invariant

pub returns-2 : goal.returns-2
returns-2 c =
    let list = c.args.list.now in
    sym (highest-end list (c.loop-i.i + 5) (omega arith) c.higher-end.result)
    ∙
    (ap (λ (m : ℕ). highest end_field m (drop (c.loop-i.i + 5) list)) c.higher-end.ensures
    ∙ (sym (highest-on list c.loop-i.i c.loop-i-test.true c.loop-i.end) ∙ c.loop-i.invariant))

pub loop-i-init : goal.loop-i-init
loop-i-init c =
    from-third 0 c.args.list.now
