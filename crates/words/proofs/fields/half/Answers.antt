-- `words::fields::half` meets its contract: the bits below the kind hold the field. Assumes nothing.
use mathlib.Core.Path.{sym}
use lib.Pow.{mod-mod-pow}
use Rattle.molang.specs.Words.{low_of}
use Rattle.words.specs.Fields.{half_of}
use Rattle.words.proofs.fields.half.Goals as goal

pub returns : goal.returns
returns c =
    unfold low_of half_of in sym (mod-mod-pow c.args.w 13 16)
