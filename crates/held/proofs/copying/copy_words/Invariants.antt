-- `held::copying::copy_words`: the first i words are laid. Assumes nothing.
use mathlib.Core.Path.{◌≡◌}
use lib.ListN.{take}
use Rattle.words.specs.Records.{laid_at}
use Rattle.held.proofs.copying.copy_words.Given as goal

abbrev pub invariant-loop-i : goal.invariant-loop-i
invariant-loop-i l = l.to ≡ laid_at l.at (take l.i l.from) l.initial.to
