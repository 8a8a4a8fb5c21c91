-- `scan::given::Given::have` meets its contract. Assumes nothing.
use mathlib.Core.Path.{sym, ◌∙◌}
use native.Mathlib.Omega.{arith}
use Rattle.scan.specs.States.{view_of}
use Rattle.scan.proofs.{ClassLaws.{have-end, have-next}}
use Rattle.scan.proofs.given.Given.have.Goals as goal

pub returns-then-s-eq0 : goal.returns-then-s-eq0
unfolding view_of
returns-then-s-eq0 c =
    have-end _ _ _ _ c.if-s-eq0.true c.end.ensures

pub returns-then-is_let : goal.returns-then-is_let
unfolding view_of
returns-then-is_let c =
    have-next _ _ _ _ (λ e. omega arith) c.op_at-op.ensures.found (sym
    c.is_let.ensures ∙ c.if-is_let.true) c.have_by.ensures
