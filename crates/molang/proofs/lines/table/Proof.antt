-- `molang::lines::table` meets its contract: what the work buffer holds follows from what is told. Assumes nothing.
use Rattle.molang.proofs.{LineLaws.{work-answered}, lines.table.Statement.{statement}}
use Rattle.molang.proofs.lines.table.Tie as tie

pub table_spec : {M : Type 1} → statement M
table_spec = tie.close (tie.spec (λ c κs. tt) (λ c. let n = c.numbers.ensures in (n.0, work-answered _ n.0, n.1)))
