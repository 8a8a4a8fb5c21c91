-- `words::checks::twelve_bits` meets its contract, by the tests of a word without the upper bits (`OldWords`). Assumes nothing.
use Prim.Native.Nat.{◌/◌, ◌%◌, ◌^◌}
use native.Mathlib.Omega.{arith}
use borrow.Author.Tests.{le-leb, lt-leb, lt-ltb}
use Rattle.molang.{specs.FirstFailure.{must, first_of}, proofs.OldWords.{old-answer}}
use Rattle.words.proofs.checks.twelve_bits.Goals as goal

pub returns-then-low-gt-LAST_OPERATOR : goal.returns-then-low-gt-LAST_OPERATOR
unfolding first_of must
returns-then-low-gt-LAST_OPERATOR c =
    let low = c.args.low in
    rw (old-answer 0 low (omega (arith, c.requires)), lt-leb (low % 256) 110 c.if-low-gt-LAST_OPERATOR.true)

pub returns-then-low-gt-LAST_VARIANT : goal.returns-then-low-gt-LAST_VARIANT
unfolding first_of must
returns-then-low-gt-LAST_VARIANT c =
    let start = c.before.before in
    let low = start.args.low in
    rw (
      old-answer 0 low (omega (arith, start.requires)),
      le-leb (low % 256) 110 c.if-low-gt-LAST_OPERATOR.false,
      lt-leb (low / 256 % 16) 12 (omega (arith, start.requires, c.if-low-gt-LAST_VARIANT.true)),
    )

pub returns : goal.returns
unfolding first_of must
returns c =
    let start = c.before.before in
    let low = start.args.low in
    rw (
      old-answer 0 low (omega (arith, start.requires)),
      le-leb (low % 256) 110 c.if-low-gt-LAST_OPERATOR.false,
      le-leb (low / 256 % 16) 12 (omega (arith, start.requires, c.if-low-gt-LAST_VARIANT.false)),
      lt-ltb low (2 ^ 12) start.requires,
    )
