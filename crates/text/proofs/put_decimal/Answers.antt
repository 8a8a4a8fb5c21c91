-- `text::put_decimal` meets its contract: the digits that io writes.
use Rattle.std.proofs.Common.{arith}
use Rattle.text.proofs.TextLaws.{wrote-decimal}
use Rattle.text.proofs.put_decimal.Goals as goal

pub returns : goal.returns
returns c = wrote-decimal c.args.n c.decimal-k.result (omega arith) c.decimal-k.ensures.len c.decimal-k.ensures.digits c.put_bytes.ensures
