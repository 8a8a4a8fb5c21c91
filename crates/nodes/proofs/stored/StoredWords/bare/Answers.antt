-- `nodes::stored::StoredWords::bare` meets its contract: by its two made words. Assumes nothing.
use Rattle.nodes.proofs.stored.StoredWords.bare.Goals as goal

pub returns : goal.returns
returns c =
    rw (c.operator_word.ensures, c.close_word.ensures)
