-- `verdicts::ask` meets its contract: the words that were laid, and the mark. Assumes nothing.
use native.Mathlib.Omega.{arith}
use Rattle.verdicts.specs.Verdicts.{asked_verdict}
use Rattle.verdicts.proofs.{VerdictLaws.{asked-words}}
use Rattle.verdicts.proofs.ask.Goals as goal

pub returns : goal.returns
unfolding asked_verdict
returns c =
    let asked = c.args.asked.now in
    let words = asked-words c.fresh_list-words.result _ asked _ (omega arith) c.lay-n.ensures.words_after c.lay-n.ensures.value.0 in
    rw (← words, ← c.at.ensures) c.call.ensures
