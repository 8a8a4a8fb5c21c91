-- `listing::bytes::words_of` meets its contract.
use Rattle.std.proofs.Common.{arith}
use Rattle.listing.proofs.ByteLaws.{words-on, words-all}
use Rattle.listing.proofs.bytes.words_of.Goals as goal

pub loop-i-preserved : goal.loop-i-preserved
loop-i-preserved c =
    let l = c.loop-i in
    words-on c.args.bytes.now l.words l.i (omega (arith, c.requires)) l.invariant c.word_of.result (omega arith) c.word_of.ensures

pub returns : goal.returns
returns c = words-all c.args.bytes.now c.loop-i.words c.loop-i.i (omega (arith, c.requires)) c.loop-i.invariant (omega arith)
