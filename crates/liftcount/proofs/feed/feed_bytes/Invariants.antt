-- `liftcount::feed::feed_bytes`: the bytes from the next on lead from here to where all lead.
use mathlib.Core.Path.{◌≡◌}
use lib.ListN.{drop}
use Rattle.liftcount.specs.Running.{state_of, fed}
use Rattle.liftcount.proofs.feed.feed_bytes.Given as goal

abbrev pub invariant-loop-b : goal.invariant-loop-b
invariant-loop-b l =
    fed (state_of l.then l.list) (drop l.b-index l.bytes) ≡ fed (state_of l.initial.then l.initial.list) l.bytes
