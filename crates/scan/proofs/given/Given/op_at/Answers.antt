-- `scan::given::Given::op_at` meets its contract. Assumes nothing.
use Rattle.scan.proofs.{ListLaws.{looked}}
use Rattle.scan.proofs.given.Given.op_at.Goals as goal

pub returns : goal.returns
returns c = looked _ _ _ c.args.self.whole c.requires.0 c.requires.1 c.operator.ensures
