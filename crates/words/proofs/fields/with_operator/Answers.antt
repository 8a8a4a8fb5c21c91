-- `words::fields::with_operator` meets its contract: the variant and the bits from 16 on stay. Assumes nothing.
use Prim.Native.Nat.{ℕ, ◌%◌, ◌/◌, ◌^◌}
use mathlib.Core.Path.{◌≡◌, ap, ◌∙◌}
use native.Mathlib.Omega.{arith}
use lib.Pow.{field, mod-mod-pow}
use Rattle.molang.specs.Words.{low_of}
use Rattle.words.specs.Fields.{variant_of, with_operator}
use Rattle.words.proofs.fields.with_operator.Goals as goal

pub returns : goal.returns
unfolding with_operator variant_of low_of
returns c =
    let w = c.args.w in
    let kept : low_of w / 2 ^ 8 % 2 ^ 4 ≡ w / 2 ^ 8 % 2 ^ 4 = ap (λ (m : ℕ). m % 2 ^ 4) (field w 21 8) ∙ mod-mod-pow (w / 2 ^ 8) 17 4 in
    rw kept (omega arith)
