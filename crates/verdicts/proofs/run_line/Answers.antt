-- `verdicts::run_line` meets its contract: a line of no numbers, and the two parts of any other. Assumes nothing.
use mathlib.Core.Path.{◌∙◌}
use native.Mathlib.Omega.{arith}
use Rattle.table.specs.Marked.{second_at}
use Rattle.verdicts.proofs.{VerdictLaws.{no_line, line-parts}}
use Rattle.verdicts.proofs.run_line.Goals as goal

pub returns : goal.returns
unfolding second_at
returns c =
    let line = c.args.line.now in
    c.ask-2.ensures ∙ line-parts line c.next_mark-middle.result c.next_mark-middle.ensures.0 (omega arith)

pub returns-then-line-eq0 : goal.returns-then-line-eq0
returns-then-line-eq0 c =
    c.ask.ensures ∙ no_line c.args.line.now c.if-line-eq0.true
