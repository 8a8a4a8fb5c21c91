-- `everylist::step::put_spaced` meets its contract: the space, and the number behind it.
use Rattle.std.proofs.Common.{arith}
use Rattle.text.proofs.TextLaws.{wrote_then}
use Rattle.everylist.proofs.step.put_spaced.Goals as goal

pub returns : goal.returns
returns c = wrote_then (omega arith) c.put_bytes-end.ensures c.put_decimal.ensures
