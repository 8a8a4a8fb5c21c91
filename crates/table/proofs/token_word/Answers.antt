-- `table::token_word` meets its contract: each word of a token, by its field. Assumes nothing.
use mathlib.Core.Path.{◌≡◌}
use native.Mathlib.Omega.{arith}
use Rattle.molang.specs.Words.{token_words}
use Rattle.table.specs.Marked.{token_word}
use Rattle.table.proofs.token_word.Goals as goal

pub returns-in-0 : goal.returns-in-0
returns-in-0 c =
    unfold token_word token_words in rw c.in-0.is c.number_word.ensures

pub returns-in-1 : goal.returns-in-1
returns-in-1 c =
    unfold token_word token_words in rw c.in-1.is c.start_word.ensures

pub returns-in-2 : goal.returns-in-2
returns-in-2 c =
    unfold token_word token_words in rw c.in-2.is c.end_word.ensures

pub returns-in-3 : goal.returns-in-3
returns-in-3 c =
    unfold token_word token_words in rw c.in-3.is c.upper_word.ensures

pub returns-in_default : goal.returns-in_default
returns-in_default c =
    unfold token_word token_words in let last : c.args.field ≡ 4 = omega arith in rw last c.lower_word.ensures
