-- The table of lines holds of the definition: the checker computes what the entries answer to each line, and compares.
use mathlib.Core.Path.{refl}
use Rattle.molang.proofs.{Computed.{computed}, lines.numbers.Statement.{statement}}
use Rattle.molang.proofs.lines.numbers.Tie as tie

returns : tie.Need-returns
unfolding computed
returns c = (refl, refl)

pub numbers_spec : {M : Type 1} → statement M
numbers_spec = tie.close (tie.spec returns)
