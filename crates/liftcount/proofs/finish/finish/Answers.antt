-- `liftcount::finish::finish` meets its contract: how the input ends, and its text. Assumes nothing.
use mathlib.Core.Path.{ap, sym, ◌∙◌}
use lib.Seq.{length-take-le}
use Rattle.liftcount.specs.{Running.{refused_row}, Steps.{ending_text}}
use Rattle.liftcount.proofs.finish.finish.Goals as goal

pub returns-in-Err : goal.returns-in-Err
returns-in-Err c =
    let put = c.put_refusal.ensures in
    let text = ap ending_text (sym (ap refused_row c.in-Err.is)) ∙ c.ended-ending.ensures in
    record { within = (put.upper_bound, sym (length-take-le _ _ put.upper_bound)); wrote = rw text at put.wrote }

pub returns-in-Ok : goal.returns-in-Ok
returns-in-Ok c =
    let put = c.put_counts.ensures in
    let text = ap ending_text (sym (ap refused_row c.in-Ok.is)) ∙ c.ended-ending.ensures in
    record { within = (put.upper_bound, sym (length-take-le _ _ put.upper_bound)); wrote = rw text at put.wrote }
