-- `words::tokens::TokenWords::bare` meets its contract: by its three made words. Assumes nothing.
use Rattle.words.proofs.tokens.TokenWords.bare.Goals as goal

pub returns : goal.returns
returns c = rw (c.operator_word.ensures, c.upper_word.ensures, c.lower_word.ensures)
