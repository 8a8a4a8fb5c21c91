-- `words::checks::are_spans` meets its contract: two kinds of three bits are read off one number. Assumes nothing.
use Prim.Native.Nat.{◌+◌, ◌*◌, ◌/◌}
use native.Mathlib.Omega.{arith}
use borrow.Author.{Tests.{eqb-true}}
use Rattle.molang.specs.Words.{kind_of}
use Rattle.words.proofs.checks.are_spans.Goals as goal

pub returns : goal.returns
unfolding kind_of
returns c =
    let a = c.args in
    λ e. let both = eqb-true (a.start / 536870912 + a.end / 536870912 * 8) 26 e in (omega (arith, both), omega (arith, both))
