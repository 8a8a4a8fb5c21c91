-- `shape::Field::begun_after` meets its contract: an operator word begins a node. Assumes nothing.
use mathlib.Core.Path.{◌≡◌, refl}
use native.Mathlib.Numerals.{add-one}
use Rattle.molang.specs.WriteEntry.{shape_after}
use Rattle.shape.specs.Answers.{field_of, shape}
use Rattle.shape.proofs.{CaseLaws.{not-operator}}
use Rattle.shape.proofs.Field.begun_after.Goals as goal

pub returns-in_default : goal.returns-in_default
unfolding shape_after
returns-in_default c =
    let n = c.args.begun in
    λ called w. not-operator (λ f. n ≡ (shape_after (field_of f) w (shape called n)).begun) refl refl refl refl refl refl c.args.self
    c.in_default.not-Operator

pub returns-in-Operator : goal.returns-in-Operator
returns-in-Operator c =
    unfold shape_after in λ called w. rw (c.in-Operator.is, add-one)
