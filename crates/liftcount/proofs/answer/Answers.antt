-- `liftcount::answer` is safe: what it hands over is what is printed for the input. Assumes nothing.
use mathlib.Core.Path.{◌∙◌}
use Rattle.text.proofs.TextLaws.{wrote-front}
use Rattle.liftcount.proofs.{Stands.{came-prints}}
use Rattle.liftcount.proofs.answer.Goals as goal

pub hand-requires : goal.hand-requires
hand-requires g c =
    let laid = c.finish-n.ensures.wrote in
    let came = c.requires in
    record { input = came.input; is = wrote-front laid ∙ came-prints _ came }
