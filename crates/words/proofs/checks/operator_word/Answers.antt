-- `words::checks::operator_word` meets its contract: kind, then the low bits. Assumes nothing.
use mathlib.Core.Path.{sym, ◌∙◌}
use Rattle.molang.{specs.FirstFailure.{must, first_of}, specs.Words.{field_kind, word_fault}, proofs.FirstFailure.{last_one}}
use Rattle.words.proofs.checks.operator_word.Goals as goal

pub returns-then-not-is_of : goal.returns-then-not-is_of
unfolding word_fault field_kind first_of must
returns-then-not-is_of c = rw (← c.is_of.ensures, c.if-not-is_of.true)

pub returns-then-low-lt4096 : goal.returns-then-low-lt4096
unfolding word_fault field_kind first_of must
returns-then-low-lt4096 c = c.twelve_bits.ensures ∙ rw (← c.is_of.ensures, c.if-not-is_of.false, ← c.low-low.ensures) (sym (last_one _))

pub returns : goal.returns
unfolding word_fault field_kind first_of must
returns c = c.low_bits.ensures ∙ rw (← c.is_of.ensures, c.if-not-is_of.false) (sym (last_one _))
