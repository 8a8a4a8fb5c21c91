-- `scan::given::Given::entry_of` meets its contract. Assumes nothing.
use Rattle.scan.proofs.ListLaws.{entry-at}
use Rattle.scan.proofs.given.Given.entry_of.Goals as goal

pub returns : goal.returns
returns c = rw c.min.ensures (entry-at _ _)
