-- `words::records::put` meets its contract: the eight words are copied to their part of the buffer. Assumes nothing.
use mathlib.Core.Path.{◌∙◌}
use native.Mathlib.Omega.{arith}
use Rattle.molang.specs.Message.{record8}
use Rattle.words.specs.Records.{words_of}
use Rattle.words.proofs.{RecordLaws.{laid-part}}
use Rattle.words.proofs.records.put.Goals as goal

pub returns : goal.returns
unfolding words_of record8
returns c = laid-part _ _ _ (words_of c.args.r) _ (omega arith) (c.copy_from_slice.ensures.after ∙ c.into-words.ensures)
