-- `shape::tree::TreeOrder::is_whole` meets its contract: only between two nodes can a tree end. Assumes nothing.
use mathlib.Core.{Path.{◌≡◌, refl}, Bool.{false}}
use Rattle.molang.specs.WriteEntry.{is_whole}
use Rattle.shape.specs.{Answers.{field_of}, Trees.{tree_whole}}
use Rattle.shape.proofs.CaseLaws.{not-operator}
use Rattle.shape.proofs.tree.TreeOrderWalk.is_whole.Goals as goal

pub returns-in-Operator : goal.returns-in-Operator
unfolding is_whole
returns-in-Operator c = rw c.in-Operator.is refl

pub returns-in_default : goal.returns-in_default
unfolding is_whole
returns-in_default c =
    let a = c.args in
    not-operator (λ f. false ≡ tree_whole (field_of f) a.self) refl refl refl refl refl refl a.field c.in_default.not-Operator
