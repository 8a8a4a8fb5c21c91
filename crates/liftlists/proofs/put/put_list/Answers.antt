-- `liftlists::put::put_list` meets its contract. Assumes nothing.
use mathlib.Core.{List.{[], ◌∷◌}}
use native.Mathlib.Omega.{arith}
use Rattle.text.proofs.TextLaws.{wrote_then}
use Rattle.liftlists.proofs.{PutLaws.{bytes-length, bytes-append}}
use Rattle.liftlists.proofs.put.put_list.Goals as goal

pub put_words-requires : goal.put_words-requires
put_words-requires c =
    omega (arith, c.put_word-end.ensures.ends, c.put_word-end.auto.out, bytes-length (c.args.opener ∷ []), c.requires)

pub returns : goal.returns
returns c =
    rw (bytes-append (c.args.opener ∷ []) c.args.words.now)
    (wrote_then (omega (arith, c.requires)) c.put_word-end.ensures c.put_words.ensures)
