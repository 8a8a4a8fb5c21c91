-- `words::fields::low` meets its contract: by computation. Assumes nothing.
use mathlib.Core.Path.{refl}
use Rattle.molang.specs.Words.{low_of}
use Rattle.words.proofs.fields.low.Goals as goal

pub returns : goal.returns
returns c =
    unfold low_of in refl
