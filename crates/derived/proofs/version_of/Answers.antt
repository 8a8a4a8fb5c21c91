-- `derived::version_of` meets its contract: the lower half of the bits, and the upper. Assumes nothing.
use Prim.Native.Nat.{◌-◌}
use mathlib.Core.Path.{◌∙◌}
use native.Mathlib.Omega.{arith}
use mir.{Syntax.{w16}, Facts.{to_z_pos, to_z-of_z}}
use Rattle.derived.proofs.{VersionLaws.{version_low, version-high, below-value, below-fits}}
use Rattle.derived.proofs.version_of.Goals as goal

pub returns : goal.returns
returns c =
    let bits = c.args.bits in
    let k = 65535 - bits in
    to_z-of_z (below-fits k (omega arith)) ∙ below-value k (omega arith) ∙ version-high bits (omega arith)

pub returns-then-bits-lt32768 : goal.returns-then-bits-lt32768
returns-then-bits-lt32768 c =
    to_z_pos w16 (omega arith) ∙ version_low c.args.bits (omega arith)

pub overflow_sub-result : goal.overflow_sub-result
overflow_sub-result c =
    below-fits (65535 - c.args.bits) (omega arith)
