-- `liftlists::put::put_words` meets its contract. Assumes nothing.
use native.Mathlib.Omega.{arith}
use lib.ListN.{take, length-take}
use Rattle.text.proofs.TextLaws.{wrote_none}
use Rattle.liftlists.specs.LiftedFile.{bytes_of}
use Rattle.liftlists.proofs.PutLaws.{bytes-length, word_more, words-all}
use Rattle.liftlists.proofs.put.put_words.Goals as goal

pub loop-w-init : goal.loop-w-init
loop-w-init c = unfold bytes_of in wrote_none _ _

pub put_word-end-requires : goal.put_word-end-requires
put_word-end-requires c =
    let i = c.loop-w.w-index in
    let words = c.args.words.now in
    omega (arith, c.loop-w.invariant.ends, bytes-length (take i words), length-take i words)

pub loop-w-preserved : goal.loop-w-preserved
loop-w-preserved c =
    word_more c.args.words.now c.loop-w.w-index (omega arith) (omega arith) c.loop-w.invariant c.put_word-end.ensures

pub returns : goal.returns
returns c = words-all c.args.words.now c.loop-w.w-index (omega arith) c.loop-w.invariant
