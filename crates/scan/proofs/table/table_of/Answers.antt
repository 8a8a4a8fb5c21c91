-- `scan::table::table_of` meets its contract. Assumes nothing.
use mathlib.Core.Path.{sym, ap, ◌∙◌}
use mir.Facts.{to_z-of_z}
use mir.Syntax.{w16}
use Rattle.molang.specs.Order.{is_from, effective}
use Rattle.scan.specs.Tables.{below_five, at_five, from_six}
use Rattle.scan.proofs.{TableLaws.{below-five, at_five_lem, from-six}}
use Rattle.scan.proofs.table.table_of.Goals as goal

pub returns-then-is_from_6 : goal.returns-then-is_from_6
unfolding from_six
returns-then-is_from_6 c =
    let same = to_z-of_z {w = w16} (record { sfits = c.effective-used.type_inv }) ∙ (c.effective-used.ensures ∙ ap effective (to_z-of_z {w = w16}
    c.ranges.version)) in
    from-six c.args.version (sym (ap (is_from 6) same) ∙ (sym c.is_from_6.ensures ∙ c.if-is_from_6.true))

pub returns-then-is_from_5 : goal.returns-then-is_from_5
unfolding at_five
returns-then-is_from_5 c =
    let same = to_z-of_z {w = w16} (record { sfits = c.effective-used.type_inv }) ∙ (c.effective-used.ensures ∙ ap effective (to_z-of_z {w = w16}
    c.ranges.version)) in
    at_five_lem c.args.version (sym (ap (is_from 5) same) ∙ (sym c.is_from_5.ensures ∙ c.if-is_from_5.true))
    (sym (ap (is_from 6) same) ∙ (sym c.is_from_6.ensures ∙ c.if-is_from_6.false))

pub returns : goal.returns
unfolding below_five
returns c =
    let same = to_z-of_z {w = w16} (record { sfits = c.effective-used.type_inv }) ∙ (c.effective-used.ensures ∙ ap effective (to_z-of_z {w = w16}
    c.ranges.version)) in
    below-five c.args.version (sym (ap (is_from 5) same) ∙ (sym c.is_from_5.ensures ∙ c.if-is_from_5.false))
