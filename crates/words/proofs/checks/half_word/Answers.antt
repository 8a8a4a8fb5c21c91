-- `words::checks::half_word` meets its contract: kind first, then the low bits, by the payload variant. Assumes nothing.
use mathlib.Core.Path.{sym, ◌∙◌}
use borrow.Author.{Tests.{eq-eqb, ne_eqb}}
use Rattle.molang.{specs.FirstFailure.{must, first_of}, specs.Words.{low_fault}, proofs.FirstFailure.{last_one}}
use Rattle.words.proofs.checks.half_word.Goals as goal

pub returns-then-not-is_of : goal.returns-then-not-is_of
unfolding first_of must
returns-then-not-is_of c = rw (← c.is_of.ensures, c.if-not-is_of.true)

pub returns-then-variant-eq0 : goal.returns-then-variant-eq0
unfolding first_of must low_fault
returns-then-variant-eq0 c =
    c.below.ensures
    ∙ rw
    (← c.is_of.ensures, c.if-not-is_of.false, ← c.low.ensures, low_fault)
    (rw (eq-eqb c.args.variant 0 c.if-variant-eq0.true) (sym (last_one _)))

pub returns : goal.returns
unfolding first_of must low_fault
returns c =
    c.below-2.ensures
    ∙ rw
    (← c.is_of.ensures, c.if-not-is_of.false, ← c.low-2.ensures, low_fault)
    (rw (ne_eqb c.args.variant 0 c.if-variant-eq0.false) (sym (last_one _)))
