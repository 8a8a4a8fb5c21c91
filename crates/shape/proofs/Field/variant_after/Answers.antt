-- `shape::Field::variant_after` meets its contract: an operator word has the variant, the others keep it. Assumes nothing.
use mathlib.Core.Path.{◌≡◌, refl}
use Rattle.molang.specs.Words.{variant_after}
use Rattle.words.specs.Fields.{variant_of}
use Rattle.shape.specs.Answers.{field_of}
use Rattle.shape.proofs.{CaseLaws.{not-operator}}
use Rattle.shape.proofs.Field.variant_after.Goals as goal

pub returns-in_default : goal.returns-in_default
unfolding variant_after
returns-in_default c =
    let a = c.args in
    not-operator (λ f. a.variant ≡ variant_after (field_of f) a.variant a.w) refl refl refl refl refl refl a.self c.in_default.not-Operator

pub returns-in-Operator : goal.returns-in-Operator
returns-in-Operator c =
    unfold variant_after variant_of in rw c.in-Operator.is c.variant.ensures
