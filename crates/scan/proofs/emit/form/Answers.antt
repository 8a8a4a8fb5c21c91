-- `scan::emit::form` meets its contract: a section, or any other node. Assumes nothing.
use mathlib.Core.Path.{refl, sym, ◌∙◌}
use Rattle.scan.specs.Records.{form_of}
use Rattle.scan.proofs.emit.form.Goals as goal

pub returns-then-is_section : goal.returns-then-is_section
unfolding form_of
returns-then-is_section c = rw (sym c.is_section.ensures ∙ c.if-is_section.true, form_of) refl

pub returns : goal.returns
unfolding form_of
returns c = rw (sym c.is_section.ensures ∙ c.if-is_section.false, form_of) refl
