-- `liftlists::step::keep` meets its contract: the word is kept, or the list goes through. Assumes nothing.
use mathlib.Core.List.{◌∷◌}
use native.Mathlib.Omega.{arith}
use Rattle.liftlists.proofs.{PutLaws.{bytes-length}, StepLaws.{kept-took, long-took}}
use Rattle.liftlists.proofs.step.keep.Goals as goal

pub returns-then-n-lt-MOST_WORDS : goal.returns-then-n-lt-MOST_WORDS
returns-then-n-lt-MOST_WORDS c =
    let a = c.args in
    λ to. kept-took a.opener a.n a.list.now c.requires.list_held (omega arith) a.w to a.out.now a.at c.requires.list_len.1
    c.if-n-lt-MOST_WORDS.true

pub put_word-end-requires : goal.put_word-end-requires
put_word-end-requires c =
    let a = c.args in
    omega (arith, c.put_list-listed.ensures.ends, bytes-length (a.opener ∷ a.list.now), c.requires.list_len.0)

pub returns : goal.returns
returns c =
    let a = c.args in
    λ to. long-took a.opener a.n a.list.now c.requires.list_held (omega arith) a.w to c.requires.list_len.1
    c.if-n-lt-MOST_WORDS.false (omega (arith, c.requires.list_len.0)) c.put_list-listed.ensures c.put_word-end.ensures
