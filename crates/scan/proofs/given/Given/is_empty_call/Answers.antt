-- `scan::given::Given::is_empty_call` meets its contract. Assumes nothing.
use mathlib.Core.{Path.{sym, ◌∙◌}}
use Rattle.scan.proofs.{ListLaws.{empty-call}}
use native.Mathlib.Omega.{arith}
use Rattle.scan.proofs.given.Given.is_empty_call.Goals as goal

pub returns : goal.returns
returns c =
    λ e v s. empty-call _ _ _ _ _ (omega arith) (omega arith) c.op_at-name.ensures.found c.entry_of.ensures (omega arith)
    (sym c.is_let.ensures ∙ e) v s
