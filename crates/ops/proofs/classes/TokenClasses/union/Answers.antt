-- `ops::classes::TokenClasses::union` meets its contract: a bit of `|` is a bit of either. Assumes nothing.
use Rattle.ops.proofs.{BitLaws.{bit-or}}
use Rattle.ops.proofs.classes.TokenClasses.union.Goals as goal

pub returns : goal.returns
returns c i =
    bit-or c.args.self.0 c.args.other.0 i
