-- `liftcount::read_input`: the run is where the bytes lead to that were taken from the reader.
use mathlib.Core.Path.{◌≡◌}
use lib.ListN.{length}
use Rattle.liftcount.specs.Running.{state_of}
use Rattle.liftcount.proofs.{InputLaws.{Taking}}
use Rattle.liftcount.proofs.read_input.Given as goal

abbrev pub invariant-loop : goal.invariant-loop
invariant-loop g l = (length l.space ≡ 65536)
    × Taking (g.R.Read.remaining l.initial.input) (g.R.Read.remaining l.input) l.initial.list l.counter (state_of l.run l.list)
