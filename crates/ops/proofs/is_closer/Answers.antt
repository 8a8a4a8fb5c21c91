-- `ops::is_closer` meets its contract: one of the three closers, or none of them. Assumes nothing.
use mathlib.Core.List.{[], ◌∷◌}
use Rattle.molang.specs.Operator.{right_brace, right_bracket, right_parenthesis, is_closer}
use Rattle.ops.proofs.{OperatorLaws.{one_of, none_of, apart}}
use Rattle.ops.proofs.is_closer.Goals as goal

pub returns-in_default : goal.returns-in_default
unfolding is_closer
returns-in_default c =
    apart _ c.args.op (none_of (right_brace ∷ right_bracket ∷ right_parenthesis ∷ []) c.args.op c.in_default.in_default-own.rest.1)

pub returns-in-1 : goal.returns-in-1
returns-in-1 c =
    unfold is_closer in one_of _ c.args.op c.in-1.is
