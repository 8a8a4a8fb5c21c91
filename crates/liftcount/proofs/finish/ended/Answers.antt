-- `liftcount::finish::ended` meets its contract, stage by stage. Assumes nothing.
use mathlib.Core.Path.{ap, ◌∙◌}
use mir.Facts.{to_z-of_z}
use Rattle.std.specs.Prelude.{Ok, Err}
use Rattle.std.proofs.lemmas.Result.{err_from_is_err_and}
use Rattle.words.specs.Refusals.{refusal_row}
use Rattle.liftcount.specs.{declared.run.Stage.TheVariants.{First, Second, Opener, InList}, Running.{refused_row, state_of, progress_text}}
use Rattle.liftcount.specs.Steps.{ending_text}
use Rattle.liftcount.proofs.{FinishLaws.{part-text, whole-text, closed-text}}
use Rattle.liftcount.proofs.finish.ended.Goals as goal

pub returns-in-First : goal.returns-in-First
unfolding progress_text
returns-in-First c =
    let a = c.args in
    let stage = ap refused_row (c.in_ok-stage.was ∙ ap Ok c.in-First.is) in
    rw c.at-in-First.ensures (whole-text (state_of a.run a.list.now) (Ok First) c.if-held-ne0.false stage)

pub returns-in-Second : goal.returns-in-Second
unfolding progress_text
returns-in-Second c =
    let a = c.args in
    let stage = ap refused_row (c.in_ok-stage.was ∙ ap Ok c.in-Second.is) in
    rw c.at-in-Second.ensures (whole-text (state_of a.run a.list.now) (Ok (Second c.in-Second.field-0)) c.if-held-ne0.false stage)

pub returns-in-Opener : goal.returns-in-Opener
unfolding progress_text
returns-in-Opener c =
    let a = c.args in
    let stage = ap refused_row (c.in_ok-stage.was ∙ ap Ok c.in-Opener.is) in
    whole-text (state_of a.run a.list.now) (Ok (Opener c.in-Opener.field-0 c.in-Opener.field-1)) c.if-held-ne0.false stage

pub returns-in-InList : goal.returns-in-InList
returns-in-InList c =
    let a = c.args in
    let fits = c.in-InList.known_told-in-InList-1-own.given in
    let from = c.in-InList.from in
    let to = c.in-InList.to in
    let words = c.in-InList.words in
    let ended = rw (to_z-of_z (record { sfits = fits.0.1 }), to_z-of_z (record { sfits = fits.1.0.1 })) at c.close_last.ensures in
    let stage = ap refused_row (c.in_ok-stage.was ∙ ap Ok c.in-InList.is) in
    ap ending_text ended
    ∙ closed-text from to words a.run.counts a.list.now
    ∙ whole-text (state_of a.run a.list.now) (Ok (InList from to words)) c.if-held-ne0.false stage

pub returns-in_err-stage : goal.returns-in_err-stage
unfolding progress_text
returns-in_err-stage c =
    let a = c.args in
    let p = err_from_is_err_and c.from_residual.result c.from_residual.ensures.1 in
    rw (p.1, p.2)
    (whole-text (state_of a.run a.list.now) (Err (refusal_row _)) c.if-held-ne0.false (ap refused_row c.in_err-stage.was))

pub returns-then-held-ne0 : goal.returns-then-held-ne0
returns-then-held-ne0 c =
    let a = c.args in rw c.at.ensures (part-text (state_of a.run a.list.now) c.if-held-ne0.true)
