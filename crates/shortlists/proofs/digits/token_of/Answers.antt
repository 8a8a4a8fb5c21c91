-- `shortlists::digits::token_of` meets its contract: its words are those of the letter's token. Assumes nothing.
use Rattle.shortlists.proofs.{DigitLaws.{token-words}}
use Rattle.shortlists.proofs.digits.token_of.Goals as goal

pub returns : goal.returns
returns c =
    let a = c.args in
    let given = c.requires in
    rw (
      c.number_word.ensures,
      c.start_word.ensures,
      c.end_word.ensures,
      c.upper_word.ensures,
      c.lower_word.ensures,
    )
    (token-words a.letter a.i given.0 given.1)
