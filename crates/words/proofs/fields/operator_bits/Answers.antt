-- `words::fields::operator_bits` meets its contract: the number's upper four bits stay above the payload variant's. Assumes nothing.
use native.Mathlib.Omega.{arith}
use Rattle.molang.specs.Words.{operator_bits}
use Rattle.words.proofs.{FieldLaws.{number-bits}}
use Rattle.words.proofs.fields.operator_bits.Goals as goal

pub returns : goal.returns
returns c =
    unfold operator_bits in omega (arith, number-bits c.args.w)
