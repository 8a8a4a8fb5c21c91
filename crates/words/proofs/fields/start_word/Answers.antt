-- `words::fields::start_word` meets its contract: the word of its kind. Assumes nothing.
use Rattle.molang.specs.Words.{low_of}
use Rattle.words.proofs.fields.start_word.Goals as goal

pub returns : goal.returns
unfolding low_of
returns c = c.word.ensures
