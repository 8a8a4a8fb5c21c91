-- `words::fields::value` meets its contract: two halves of sixteen bits. Assumes nothing.
use mathlib.Core.Path.{ap₂}
use Prim.Native.Nat.{ℕ, ◌+◌, ◌*◌}
use native.Mathlib.Omega.{arith}
use Rattle.words.specs.Fields.{half_of, value_of}
use Rattle.words.proofs.fields.value.Goals as goal

pub overflow_mul-result : goal.overflow_mul-result
overflow_mul-result c =
    unfold half_of in omega (arith, c.half.ensures)

pub overflow_add-result : goal.overflow_add-result
overflow_add-result c =
    unfold half_of in omega (arith, c.half.ensures, c.half-2.ensures)

pub returns : goal.returns
returns c =
    unfold value_of in ap₂ (λ (a b : ℕ). a * 65536 + b) c.half.ensures c.half-2.ensures
