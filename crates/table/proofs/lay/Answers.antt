-- `table::lay` meets its contract.
use Rattle.std.proofs.Common.{◌∙◌, refl, length, arith}
use Rattle.std.proofs.Math.ListN.{length-set}
use Rattle.table.specs.Marked.{first_words}
use Rattle.table.proofs.MarkedLaws.{laid_on, laid_end, no_room, with-room}
use Rattle.table.proofs.lay.Goals as goal

pub loop-i-init : goal.loop-i-init
loop-i-init c = unfold first_words in (refl, refl)

pub loop-i-preserved : goal.loop-i-preserved
loop-i-preserved c =
    let now = c.loop-i in (
      length-set now.words now.i _ ∙ now.invariant.0,
      laid_on now.words c.args.words.now c.args.marked.now now.i _ now.invariant.1 (omega arith) c.word.ensures,
    )

pub returns-then-words-n : goal.returns-then-words-n
returns-then-words-n c =
    record {
      words_after = laid_end c.loop-i.words c.args.words.now c.args.marked.now c.loop-i.i c.loop-i.invariant.1 (omega arith);
      value = (no_room (length c.args.words.now) _ _ c.word_count-n.ensures (omega arith), omega arith);
    }

pub returns : goal.returns
returns c =
    record {
      words_after = laid_end c.loop-i.words c.args.words.now c.args.marked.now c.loop-i.i c.loop-i.invariant.1 (omega arith);
      value = (with-room (length c.args.words.now) _ _ c.word_count-n.ensures (omega arith), omega arith);
    }
