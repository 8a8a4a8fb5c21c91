-- `scan::scan::scan` meets its contract. Assumes nothing.
use mathlib.Core.Path.{refl, sym, ap, ◌∙◌}
use native.Mathlib.Omega.{arith}
use mir.Facts.{to_z-of_z}
use mir.Syntax.{w16}
use Rattle.molang.specs.Order.{rules}
use Rattle.scan.specs.{Tables.{table_of}, States.{stack_of}, Views.{top_word}}
use Rattle.scan.proofs.{ScanLaws.{scan-goes, low-of, openers-of, has-scanned, gives_up}}
use Rattle.scan.proofs.scan.scan.Goals as goal

pub push-s-requires : goal.push-s-requires
unfolding stack_of top_word
push-s-requires c =
    (record { apart = omega arith; within = omega arith; top = refl }, omega (arith, c.requires.room))

pub invariant_of-given : goal.invariant_of-given
invariant_of-given c =
    let r = rules c.args.version in
    let e = c.table_of-table.ensures ∙ ap (λ v. table_of (rules v)) (to_z-of_z {w = w16} c.ranges.version) in
    record { whole = c.requires.whole; few = c.requires.few; low = low-of r _ e; openers = openers-of r _ e }

pub turns-requires : goal.turns-requires
turns-requires c = scan-goes _ _ c.requires c.push-s.ensures _ _

pub returns : goal.returns
returns c =
    has-scanned _ _ _ c.args.version _ (c.table_of-table.ensures ∙ ap (λ v. table_of (rules v)) (to_z-of_z {w = w16} c.ranges.version))
    (sym c.has_any.ensures ∙ c.if-has_any.false) c.push-s.ensures.long c.turns.ensures

pub returns-then-has_any : goal.returns-then-has_any
returns-then-has_any c =
    gives_up _ _ _ _
