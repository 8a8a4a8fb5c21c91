-- `write::reader::operator_at` meets its contract: a word past the last is read as 0. Assumes nothing.
use lib.ListN.{get_or-eq_default}
use Rattle.molang.specs.Words.{low_of, number_in}
use Rattle.words.specs.Fields.{operator_of}
use Rattle.write.proofs.reader.operator_at.Goals as goal

pub returns : goal.returns
returns c = unfold operator_of low_of number_in in rw (get_or-eq_default c.args.words.now 0 c.if-at-words.false)
