-- A record's words, in their order. Assumes nothing.
use mathlib.Core.Path.{refl}
use Rattle.molang.specs.Message.{record8}
use Rattle.words.specs.Records.{words_of}
use Rattle.words.proofs.records.ArrayU32fieldsRECORDWORDSFromRecord.from.Goals as goal

pub returns : goal.returns
returns c = unfold words_of record8 in refl
