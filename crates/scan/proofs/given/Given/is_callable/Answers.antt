-- `scan::given::Given::is_callable` meets its contract. Assumes nothing.
use mathlib.Core.{Path.{sym, ◌∙◌}}
use Rattle.scan.proofs.{ListLaws.{callable}}
use native.Mathlib.Omega.{arith}
use Rattle.scan.proofs.given.Given.is_callable.Goals as goal

pub returns : goal.returns
returns c =
    λ e. callable _ _ _ _ (omega arith) c.op_at-name.ensures.found c.entry_of.ensures (omega arith) (sym
    c.is_let.ensures ∙ e)
