-- `order::ranks` meets its contract: each table is the definition's order. Assumes nothing.
use mathlib.Core.Path.{sym, ◌∙◌}
use mir.Facts.{to_z-of_z}
use Rattle.order.proofs.{Ranking.{before-5, at_5, from-6}}
use Rattle.order.proofs.ranks.Goals as goal

pub returns-then-is_from_6 : goal.returns-then-is_from_6
returns-then-is_from_6 c =
    let table = from-6 c.args.version (sym (rw (to_z-of_z c.ranges.version) at c.is_from_6.ensures) ∙ c.if-is_from_6.true) in
    record { ranked = table.0; no_more = table.1 }

pub returns-then-is_from_5 : goal.returns-then-is_from_5
returns-then-is_from_5 c =
    let table = at_5 c.args.version (sym (rw (to_z-of_z c.ranges.version) at c.is_from_6.ensures) ∙ c.if-is_from_6.false)
    (sym (rw (to_z-of_z c.ranges.version) at c.is_from_5.ensures) ∙ c.if-is_from_5.true) in
    record { ranked = table.0; no_more = table.1 }

pub returns : goal.returns
returns c =
    let table = before-5 c.args.version (sym (rw (to_z-of_z c.ranges.version) at c.is_from_6.ensures) ∙ c.if-is_from_6.false)
    (sym (rw (to_z-of_z c.ranges.version) at c.is_from_5.ensures) ∙ c.if-is_from_5.false) in
    record { ranked = table.0; no_more = table.1 }
