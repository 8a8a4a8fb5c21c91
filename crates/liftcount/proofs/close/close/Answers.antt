-- `liftcount::close::close` meets its contract: what the list came to, and the counts after it. Assumes nothing.
use mathlib.Core.Path.{ap, ◌∙◌}
use lib.ListN.{take}
use mir.Facts.{to_z-of_z}
use Rattle.std.specs.Prelude.{Result, Ok}
use Rattle.molang.specs.Words.{Refusal}
use Rattle.std.proofs.lemmas.Result.{err_from_is_err_and}
use Rattle.liftcount.specs.{declared.judge.Verdict.{Verdict}, Running.{open_fault}}
use Rattle.liftcount.proofs.{CloseLaws.{then_tallied, tallied-ends}}
use Rattle.liftcount.proofs.close.close.Goals as goal

pub returns-in_err-verdict : goal.returns-in_err-verdict
returns-in_err-verdict c =
    let a = c.args in
    let p = err_from_is_err_and c.from_residual.result c.from_residual.ensures.1 in
    let verdict = rw (to_z-of_z c.ranges.from, to_z-of_z c.ranges.to) at c.in_err-verdict.ensures in
    rw (p.1, p.2)
    (ap (λ (r : Result Verdict Refusal). then_tallied r a.counts) verdict
    ∙ tallied-ends (open_fault a.words a.list.now) a.from a.to (take a.words a.list.now) a.counts)

pub returns : goal.returns
returns c =
    let a = c.args in
    let verdict = rw (to_z-of_z c.ranges.from, to_z-of_z c.ranges.to) at c.in_ok-verdict.ensures in
    ap Ok c.tallied.ensures
    ∙ ap (λ (r : Result Verdict Refusal). then_tallied r a.counts) verdict
    ∙ tallied-ends (open_fault a.words a.list.now) a.from a.to (take a.words a.list.now) a.counts
