-- `words::fields::operator` meets its contract: the bits below the kind hold both parts. Assumes nothing.
use native.Mathlib.Omega.{arith}
use Rattle.words.proofs.{FieldLaws.{number-bits}}
use Rattle.words.proofs.fields.operator.Goals as goal

pub returns : goal.returns
returns c =
    omega (arith, number-bits c.args.w)
