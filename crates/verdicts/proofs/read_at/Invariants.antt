-- `verdicts::read_at`: what the versions that are left find is what all find.
use Prim.Native.Nat.{◌-◌}
use mathlib.Core.Path.{◌≡◌}
use Rattle.verdicts.specs.Verdicts.{from_version, at_versions}
use Rattle.verdicts.proofs.read_at.Given as goal

abbrev pub invariant-loop-bits : goal.invariant-loop-bits
invariant-loop-bits l =
    from_version (l.bits-end - l.bits) l.bits l.list l.limit l.said ≡ at_versions l.list l.mark l.said
