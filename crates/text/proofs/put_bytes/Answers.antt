-- `text::put_bytes` meets its contract.
use Rattle.std.proofs.Common.{arith}
use Rattle.text.proofs.TextLaws.{wrote-copied}
use Rattle.text.proofs.put_bytes.Goals as goal

pub returns : goal.returns
returns c = wrote-copied c.args.out.now c.args.bytes.now c.args.at _ _ c.copy_from_slice.ensures.after (omega arith)
