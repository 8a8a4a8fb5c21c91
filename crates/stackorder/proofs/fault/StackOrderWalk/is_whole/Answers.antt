-- `stackorder::fault::StackOrder::is_whole` meets its contract: only between two nodes can a tree end. Assumes nothing.
use mathlib.Core.{Path.{◌≡◌, refl}, Bool.{false}}
use Rattle.molang.specs.StackOrder.{is_one_stack}
use Rattle.shape.{specs.Answers.{field_of}, proofs.CaseLaws.{not-operator}}
use Rattle.stackorder.specs.Faults.{order_whole}
use Rattle.stackorder.proofs.fault.StackOrderWalk.is_whole.Goals as goal

pub returns-in-Operator : goal.returns-in-Operator
unfolding is_one_stack
returns-in-Operator c = rw c.in-Operator.is refl

pub returns-in_default : goal.returns-in_default
unfolding is_one_stack
returns-in_default c =
    let a = c.args in
    not-operator (λ f. false ≡ order_whole (field_of f) a.self) refl refl refl refl refl refl a.field c.in_default.not-Operator
