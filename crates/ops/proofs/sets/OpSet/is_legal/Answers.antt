-- `ops::sets::OpSet::is_legal` meets its contract: the bits above operator 110 are in the high half. Assumes nothing.
use borrow.Author.Rules.{rules}
use Rattle.ops.proofs.{SetLaws.{legal}}
use Rattle.ops.proofs.sets.OpSet.is_legal.Goals as goal

pub returns : goal.returns
returns c =
    legal c.args.self.low c.args.self.high (search rules)
