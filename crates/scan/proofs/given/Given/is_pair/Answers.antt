-- `scan::given::Given::is_pair` meets its contract. Assumes nothing.
use Rattle.scan.proofs.{ListLaws.{pair-seen}}
use native.Mathlib.Omega.{arith}
use Rattle.scan.proofs.given.Given.is_pair.Goals as goal

pub returns : goal.returns
returns c =
    λ e. pair-seen _ _ _ _ (omega arith) (omega arith) c.op_at-2.ensures.found c.entry_of.ensures e
