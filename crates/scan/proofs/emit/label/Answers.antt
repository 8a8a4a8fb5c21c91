-- `scan::emit::label` meets its contract: form by form. Assumes nothing.
use mathlib.Core.Path.{refl, sym, ◌∙◌}
use native.Mathlib.Omega.{arith}
use Rattle.scan.specs.Emit.{label_words}
use Rattle.scan.proofs.{EmitLaws.{label-other}}
use Rattle.scan.proofs.emit.label.Goals as goal

pub returns-in-0 : goal.returns-in-0
returns-in-0 c =
    unfold label_words in rw (c.in-0.is, label_words) refl

pub returns-in-1 : goal.returns-in-1
returns-in-1 c =
    unfold label_words in rw (c.in-1.is, label_words) c.renamed.ensures

pub returns-in-2 : goal.returns-in-2
returns-in-2 c =
    unfold label_words in rw (c.in-2.is, label_words) c.bare.ensures

pub returns-in-3 : goal.returns-in-3
returns-in-3 c =
    unfold label_words in rw (c.in-3.is, label_words) c.bare-in-3.ensures

pub returns-in_default : goal.returns-in_default
returns-in_default c = c.renamed-in_default.ensures ∙ sym (label-other _ _ (omega arith))
