-- `liftcount::step::taken` meets its contract, stage by stage. Assumes nothing.
use mir.Facts.{to_z-of_z}
use mathlib.Core.Path.{ap, ◌∙◌}
use Rattle.liftcount.specs.Steps.{after_word}
use Rattle.liftcount.proofs.step.taken.Goals as goal

pub returns-in-First : goal.returns-in-First
returns-in-First c =
    let a = c.args in
    rw (c.in-First.is)
    (c.after_word.ensures a.list.now ∙ ap after_word (c.after_first.ensures a.counts a.list.now))

pub returns-in-Second : goal.returns-in-Second
returns-in-Second c =
    let a = c.args in
    let fits = c.in-Second.known_told-1-own.given in
    let second = ap after_word (c.after_second.ensures a.counts a.list.now) in
    rw (c.in-Second.is)
    (c.after_word-in-Second.ensures a.list.now ∙ (rw (to_z-of_z (record { sfits = fits.0.1 })) at second))

pub returns-in-Opener : goal.returns-in-Opener
returns-in-Opener c =
    let a = c.args in
    let fits = c.in-Opener.known_told-in-Opener-1-own.given in
    let third = ap after_word (c.after_third.ensures a.counts a.list.now) in
    rw (c.in-Opener.is)
    (c.after_word-in-Opener.ensures a.list.now
    ∙ (rw (to_z-of_z (record { sfits = fits.0.1 }), to_z-of_z (record { sfits = fits.1.0.1 })) at third))

pub returns-in-InList : goal.returns-in-InList
returns-in-InList c =
    let fits = c.in-InList.known_told-in-InList-1-own.given in
    rw (c.in-InList.is)
    (rw (to_z-of_z (record { sfits = fits.0.1 }), to_z-of_z (record { sfits = fits.1.0.1 })) at c.take_in_list.ensures)
