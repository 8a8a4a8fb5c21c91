-- `scan::emit::closer` meets its contract: a section, or any other node. Assumes nothing.
use mathlib.Core.Path.{sym, ◌∙◌}
use Rattle.scan.specs.Records.{closer_place}
use Rattle.scan.proofs.emit.closer.Goals as goal

pub returns-then-is_section : goal.returns-then-is_section
unfolding closer_place
returns-then-is_section c = rw (sym c.is_section.ensures ∙ c.if-is_section.true, closer_place) c.wide.ensures

pub returns : goal.returns
unfolding closer_place
returns c = rw (sym c.is_section.ensures ∙ c.if-is_section.false, closer_place) c.wide-2.ensures
