-- `text::put_number` meets its contract: the digits, and the byte behind them.
use Rattle.std.proofs.Common.{arith}
use Rattle.text.specs.Text.{numbered}
use Rattle.text.proofs.TextLaws.{decimal-length, wrote_then}
use Rattle.text.proofs.put_number.Goals as goal

pub put_bytes-requires : goal.put_bytes-requires
put_bytes-requires c = omega (arith, c.put_decimal-end.ensures.ends, decimal-length c.args.n)

pub returns : goal.returns
unfolding numbered
returns c = wrote_then (omega arith) c.put_decimal-end.ensures c.put_bytes.ensures
