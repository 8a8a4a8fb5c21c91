-- `ops::classes::class` meets its contract: the table's entry at an operator, and no class at any other number. Assumes nothing.
use mathlib.Core.Path.{◌∙◌}
use native.Mathlib.Omega.{arith}
use Rattle.ops.proofs.{ClassLaws.{entry_at, entry_past}}
use Rattle.ops.proofs.classes.class.Goals as goal

pub returns-in-Some : goal.returns-in-Some
returns-in-Some c =
    let found = c.in-Some.ensures.lookup.3 in
    found.1 0 ∙ entry_at c.args.table.now c.args.op (omega (arith, found.0, c.told-table))

pub returns-in-None : goal.returns-in-None
returns-in-None c = entry_past c.args.table.now c.args.op (omega (arith, c.in-None.ensures.lookup.3, c.told-table))
