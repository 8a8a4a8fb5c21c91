-- `scan::given::Given::want` meets its contract. Assumes nothing.
use mathlib.Core.Path.{sym, ◌∙◌}
use native.Mathlib.Omega.{arith}
use Rattle.scan.specs.States.{view_of}
use Rattle.scan.proofs.{ClassLaws.{want-next}}
use Rattle.scan.proofs.given.Given.want.Goals as goal

pub returns-then-is_let : goal.returns-then-is_let
unfolding view_of
returns-then-is_let c =
    want-next _ _ _ _ (λ e. omega arith) c.op_at-op.ensures.found (sym
    c.is_let.ensures ∙ c.if-is_let.true) c.want_by.ensures
