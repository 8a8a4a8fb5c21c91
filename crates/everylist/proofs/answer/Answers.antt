-- `everylist::answer` is safe, and prints what is kept of an input. Assumes nothing.
use mathlib.Core.Path.{ap}
use native.Mathlib.Omega.{arith}
use lib.ListN.{length, length-take}
use Rattle.everylist.proofs.{InputLaws.{kept-came}}
use Rattle.everylist.proofs.answer.Goals as goal

pub put_bytes-requires : goal.put_bytes-requires
put_bytes-requires g c =
    let came = c.requires in omega (arith, length-take 44 came.input, ap length came.first)

pub print-requires : goal.print-requires
print-requires g c =
    let read = c.words_of in
    let put = c.put_bytes in
    kept-came _ _ _ _ _ c.requires put.ensures.whole read.ensures
