-- `words::fields::WordKind::word` meets its contract. Assumes nothing.
use Prim.Native.Nat.{ℕ}
use mathlib.Core.Path.{ap}
use Rattle.molang.specs.Words.{word}
use Rattle.words.proofs.fields.WordKind.word.Goals as goal

pub returns : goal.returns
unfolding word
returns c = ap (λ (k : ℕ). word k c.args.low) c.from.ensures
