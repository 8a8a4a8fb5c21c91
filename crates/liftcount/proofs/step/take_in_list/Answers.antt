-- `liftcount::step::take_in_list` meets its contract: a word is kept, or the list ends. Assumes nothing.
use mathlib.Core.Path.{ap, sym, ◌∙◌}
use mir.Facts.{to_z-of_z}
use Rattle.std.specs.Prelude.{Result}
use Rattle.molang.specs.Words.{Refusal}
use Rattle.liftcount.specs.{declared.run.Counts.{Counts}, Steps.{after_word, opened_after}}
use Rattle.liftcount.proofs.{StepLaws.{reopens}}
use Rattle.liftcount.proofs.step.take_in_list.Goals as goal

pub returns-then-kind-ne0 : goal.returns-then-kind-ne0
returns-then-kind-ne0 c =
    rw (to_z-of_z c.ranges.from, to_z-of_z c.ranges.to) at c.store.ensures

pub returns : goal.returns
returns c =
    let a = c.args in
    let list = a.list.now in
    let ending = rw (to_z-of_z c.ranges.from, to_z-of_z c.ranges.to) at c.close-ending.ensures in
    let opens = sym c.kind.ensures ∙ c.if-kind-ne0.false in
    rw (to_z-of_z c.ranges.from, to_z-of_z c.ranges.to) at (c.reopen.ensures list)
    ∙ ap (λ (e : Result Counts Refusal). after_word (opened_after e a.from a.to a.counts list)) ending
    ∙ ap after_word (reopens a.counts list a.w a.from a.to a.words opens)

pub store-requires : goal.store-requires
store-requires c =
    λ e. c.if-kind-ne0.true (c.kind.ensures ∙ e)
