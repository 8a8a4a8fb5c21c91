-- `everylist::kept::fine_words` meets its contract: the words from i on decide.
use Rattle.std.proofs.Common.{sym, ◌∙◌, arith}
use Rattle.listing.{specs.Lists.{words_in}, proofs.ByteLaws.{words-at}}
use Rattle.everylist.proofs.{PartLaws.{words_count}, NumberLaws.{number-on, number-off, numbers-all}}
use Rattle.everylist.proofs.kept.fine_words.Goals as goal

pub returns-then-word-gt-MOST_NUMBER : goal.returns-then-word-gt-MOST_NUMBER
returns-then-word-gt-MOST_NUMBER c =
    let chunk = c.args.chunk.now in
    let word = c.word_of-word in
    number-off (words_in chunk) c.loop-i.i c.loop-i.invariant word.result
    (word.ensures ∙ sym (words-at c.loop-i.i chunk (omega arith))) (omega (arith, words_count chunk)) (omega arith)

pub loop-i-preserved : goal.loop-i-preserved
loop-i-preserved c =
    let chunk = c.args.chunk.now in
    let word = c.word_of-word in
    number-on (words_in chunk) c.loop-i.i c.loop-i.invariant word.result
    (word.ensures ∙ sym (words-at c.loop-i.i chunk (omega arith))) (omega (arith, words_count chunk)) (omega arith)

pub returns : goal.returns
returns c =
    let chunk = c.args.chunk.now in
    numbers-all (words_in chunk) c.loop-i.i c.loop-i.invariant (omega (arith, words_count chunk))
