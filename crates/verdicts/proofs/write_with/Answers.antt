-- `verdicts::write_with` meets its contract: what the writing told and left is the definition's. Assumes nothing.
use mathlib.Core.Path.{◌∙◌}
use Rattle.verdicts.proofs.{VerdictLaws.{write-judged}}
use Rattle.verdicts.proofs.write_with.Goals as goal

pub returns : goal.returns
returns c =
    let said = c.args.said.now in
    rw (← c.is_written-told.ensures, ← c.holds-left.ensures) c.compared.ensures
    ∙ write-judged _ _ _ said c.write-written.ensures.result_value c.write-written.ensures.list_after
