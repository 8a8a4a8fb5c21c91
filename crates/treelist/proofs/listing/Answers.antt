-- `treelist::listing` meets its contract: the words of the bytes, the answer to them, its text. Assumes nothing.
use mathlib.Core.Path.{sym}
use lib.Seq.{length-take-le}
use Rattle.treelist.proofs.{AskedLaws.{printable, listed}}
use borrow.Author.Rules.{rules}
use Rattle.treelist.proofs.listing.Goals as goal

pub put_answer-requires : goal.put_answer-requires
put_answer-requires c =
    let words = c.words_of.new.words in
    rw c.answer-answered.ensures.result_value
    (printable c.args.bytes words c.args.out.now c.answer-answered.new.tree c.answer-answered.new.messages
    (search rules) (search rules) (search rules) (search rules))

pub returns : goal.returns
returns c =
    let answered = c.answer-answered.ensures in
    let put = c.put_answer.ensures in
    record {
      prefix_len = (put.upper_bound, sym (length-take-le _ _ put.upper_bound));
      wrote = rw (listed c.args.bytes c.args.front.now c.words_of.new.words _ _ _ c.words_of.ensures answered.result_value
          answered.tree_after answered.messages_after) at put.wrote;
    }
