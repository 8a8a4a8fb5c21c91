-- `words::fields::variant` meets its contract: bits 8 to 11 are below the kind. Assumes nothing.
use mathlib.Core.Path.{sym, ap, ◌∙◌}
use Prim.Native.Nat.{ℕ, ◌%◌, ◌/◌, ◌^◌}
use lib.Pow.{field, mod-mod-pow}
use Rattle.molang.specs.Words.{low_of}
use Rattle.words.specs.Fields.{variant_of}
use Rattle.words.proofs.fields.variant.Goals as goal

pub returns : goal.returns
returns c = unfold low_of variant_of in sym (ap (λ (m : ℕ). m % 2 ^ 4) (field c.args.w 21 8) ∙ mod-mod-pow (c.args.w / 2 ^ 8) 17 4)
