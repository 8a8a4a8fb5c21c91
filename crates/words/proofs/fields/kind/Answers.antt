-- `words::fields::kind` meets its contract: by computation. Assumes nothing.
use mathlib.Core.Path.{refl}
use Rattle.molang.specs.Words.{kind_of}
use Rattle.words.proofs.fields.kind.Goals as goal

pub returns : goal.returns
returns c =
    unfold kind_of in refl
