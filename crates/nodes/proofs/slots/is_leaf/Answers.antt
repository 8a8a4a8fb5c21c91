-- `nodes::slots::is_leaf` meets its contract.
use Prim.Native.Nat.{ℕ}
use mathlib.Core.Path.{ap}
use lib.Dec.{eqb}
use Rattle.nodes.proofs.slots.is_leaf.Goals as goal

pub returns : goal.returns
returns c =
    ap (λ (w : ℕ). eqb w 0) c.first_of.ensures
