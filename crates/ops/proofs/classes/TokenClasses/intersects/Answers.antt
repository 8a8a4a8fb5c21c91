-- `ops::classes::TokenClasses::intersects` meets its contract: `&` of two sets is not 0 where they have a bit in common.
-- Assumes nothing.
use mathlib.Core.{Path.{◌≡◌, ◌∙◌}, Bool.{not, ◌&&◌}}
use Prim.Native.Nat.{ℕ, ◌<◌, ◌^◌}
use native.Mathlib.Nat.{lt_of_le_of_lt}
use lib.{Dec.{eqb}, Bits.{bit_and, and_le_l}}
use borrow.Author.Rules.{rules}
use Rattle.ops.specs.Classes.{bit_at, shares}
use Rattle.ops.proofs.{BitLaws.{nonzero, some_same, bit-and}}
use Rattle.ops.proofs.classes.TokenClasses.intersects.Goals as goal

common : (a b : ℕ) → a < 2 ^ 32 → not (eqb (bit_and a b) 0) ≡ shares a b
unfolding shares
common a b small =
    nonzero 32 (bit_and a b) (lt_of_le_of_lt (and_le_l a b) small)
    ∙ some_same 32 (bit_at (bit_and a b)) (λ i. bit_at a i && bit_at b i) (λ i below. bit-and a b i)

pub returns : goal.returns
returns c =
    common c.args.self.0 c.args.other.0 (search rules)
