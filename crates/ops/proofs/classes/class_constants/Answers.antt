-- `ops::classes::class_constants` meets its contract: antt compares each constant with the number that specs/Constants has for it.
-- Assumes nothing.
use mathlib.Core.Path.{refl}
use Rattle.ops.specs.Constants.{numbers_of, constant_numbers}
use Rattle.ops.proofs.classes.class_constants.Goals as goal

pub returns : goal.returns
returns c =
    unfold numbers_of constant_numbers in refl
