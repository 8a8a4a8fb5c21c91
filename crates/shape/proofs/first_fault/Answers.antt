-- `shape::first_fault` meets its contract: what the walk finds, under the number 12. Assumes nothing.
use mathlib.Core.Path.{sym, ap, ◌∙◌}
use Rattle.molang.specs.Words.{with_number}
use Rattle.shape.proofs.CaseLaws.{numbered-12}
use Rattle.shape.proofs.first_fault.Goals as goal

pub returns : goal.returns
returns c = sym (numbered-12 _) ∙ ap (with_number 12) c.first_fault.ensures
