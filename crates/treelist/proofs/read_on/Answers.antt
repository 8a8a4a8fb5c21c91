-- `treelist::read_on` meets its contract: the chunk that came is counted.
use Rattle.std.proofs.Common.{refl}
use Rattle.treelist.proofs.read_on.Goals as goal

pub returns-clause-counted : goal.returns-clause-counted
returns-clause-counted g c = (c.in-Ok.ensures.prefix_len.0, refl)

pub returns-clause-taken : goal.returns-clause-taken
returns-clause-taken g c = c.in-Ok.ensures.taken
