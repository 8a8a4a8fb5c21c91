-- `treelist::answer_input` is safe: what it hands over is what is printed for the input. Assumes nothing.
use mathlib.Core.Path.{ap, ◌∙◌}
use native.Mathlib.Omega.{arith}
use lib.ListN.{length, length-take}
use Rattle.text.proofs.TextLaws.{wrote-front}
use Rattle.treelist.proofs.{InputLaws.{front-prints}}
use Rattle.treelist.proofs.answer_input.Goals as goal

pub put_bytes-requires : goal.put_bytes-requires
put_bytes-requires g c =
    let came = c.requires in omega (arith, length-take 2564 came.input, ap length came.first)

pub hand-requires : goal.hand-requires
hand-requires g c =
    let laid = c.listing-n.ensures.wrote in
    let put = c.put_bytes in
    let came = c.requires in
    record { input = came.input; is = wrote-front laid ∙ front-prints _ _ _ came put.ensures.whole }
