-- `scan::emit::children` meets its contract: a section, or any other node. Assumes nothing.
use mathlib.Core.Path.{refl, sym, ◌∙◌}
use Rattle.scan.specs.Records.{children_of}
use Rattle.scan.proofs.emit.children.Goals as goal

pub returns-then-is_section : goal.returns-then-is_section
unfolding children_of
returns-then-is_section c = rw (sym c.is_section.ensures ∙ c.if-is_section.true, children_of) refl

pub returns : goal.returns
unfolding children_of
returns c = rw (sym c.is_section.ensures ∙ c.if-is_section.false, children_of) refl
