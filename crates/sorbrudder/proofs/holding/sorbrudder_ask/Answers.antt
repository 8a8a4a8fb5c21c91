-- `sorbrudder::holding::sorbrudder_ask` meets its contract: what `ask_edit` promises, with the answer's number. Assumes nothing.
use mathlib.Core.Path.{sym, subst}
use mir.Facts.{to_z-of_z}
use Rattle.molang.specs.Parse.{Told}
use Rattle.held.specs.{Answers.{lent, edit}}
use Rattle.sorbrudder.specs.{Numbers.{FitsTold}}
use Rattle.sorbrudder.proofs.{HoldingLaws.{ask-fits, asked-to}}
use Rattle.sorbrudder.proofs.holding.sorbrudder_ask.Goals as goal
use mir.Syntax.{w16}

pub parsed_number-requires : goal.parsed_number-requires
parsed_number-requires c =
    let asks = rw (to_z-of_z {w = w16} c.ranges.version) at c.ask_edit-answer.ensures in
    subst (λ (o : Told). FitsTold o) (sym asks.told) (ask-fits _ _ _)

pub returns : goal.returns
returns c =
    let asks = rw (to_z-of_z {w = w16} c.ranges.version) at c.ask_edit-answer.ensures in
    asked-to c.args.tokens c.args.version c.args.words.now (edit c.args.place c.args.removed c.args.put.now)
    (lent c.args.tree.now c.args.messages.now c.args.work.now c.args.limit) asks c.parsed_number.ensures
