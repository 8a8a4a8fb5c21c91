-- `run`: the loop over the driver's turns. Its invariant: what is left to be done has the whole pass's result, and takes fewer turns than
-- the loop has left.
use Prim.Native.Nat.{◌-◌}
use lib.ListN.{length}
use Rattle.grouping.proofs.RunLaws.{Running}
use Rattle.grouping.proofs.driver.run.Given as goal

abbrev pub invariant-loop : goal.invariant-loop
invariant-loop l =
    Running l.initial.work l.initial.walk l.base (length l.initial.work) l.work l.walk (length l.initial.work - l.counter)
