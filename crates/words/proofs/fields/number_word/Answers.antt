-- `words::fields::number_word` meets its contract: the number's upper four bits stand above the payload variant. Assumes nothing.
use Prim.Native.Nat.{◌%◌, ◌/◌, ◌^◌}
use mathlib.Core.Path.{◌≡◌, ◌∙◌}
use lib.Pow.{field, mod-mod-pow}
use native.Mathlib.Omega.{arith}
use Rattle.molang.specs.Words.{word, operator_bits}
use Rattle.words.proofs.fields.number_word.Goals as goal

pub returns : goal.returns
unfolding word operator_bits
returns c =
    let n = c.args.n in
    let upper : n % 2 ^ 12 / 2 ^ 8 ≡ n / 2 ^ 8 % 2 ^ 4 = field n 4 8 in
    let lower : n % 2 ^ 12 % 2 ^ 8 ≡ n % 2 ^ 8 = mod-mod-pow n 4 8 in
    c.word.ensures ∙ rw (upper, lower) (omega arith)
