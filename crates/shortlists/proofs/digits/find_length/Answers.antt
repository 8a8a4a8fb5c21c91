-- `shortlists::digits::find_length` meets its contract. The loop's invariant: the lists that are shorter than `length` stand before the
-- position, and `left` of the others do. The measure is what is left. Assumes nothing.
use Prim.Native.Nat.{ℕ, ◌+◌, ◌-◌, ◌^◌, ◌<◌, ◌≤◌}
use mathlib.Core.Path.{◌≡◌, sym}
use native.Mathlib.{Nat.{pow-zero, one-le-pow}, Omega.{arith}}
use Rattle.shortlists.specs.ShortLists.{powers}
use Rattle.shortlists.proofs.DigitLaws.{power-next, power-next-few, powers-next, powers-none, longer-still}
use Rattle.shortlists.proofs.digits.find_length.Goals as goal

-- The position is behind one length more.
further : (k l size left position : ℕ) → size ≡ k ^ l → position ≡ powers k l + left → size ≤ left
    → position ≡ powers k (l + 1) + (left - size)
further k l size left position power whole behind = omega (arith, power, whole, powers-next k l)

-- So it is not yet the last.
short : (k l size left position : ℕ) → l ≤ 6 → size ≡ k ^ l → position ≡ powers k l + left → size ≤ left → position < powers k 7 → l < 6
short k l size left position most power whole behind below =
    longer-still k l position most below (omega (arith, further k l size left position power whole behind))

pub overflow_mul-size : goal.overflow_mul-size
overflow_mul-size c =
    let k = c.args.letters in
    let at = c.loop-size in
    omega (arith, power-next-few k at.length at.size at.invariant.1 c.requires.few (short c.args.letters c.loop-size.length c.loop-size.size c.loop-size.left c.args.position c.loop-size.invariant.0 c.loop-size.invariant.1 c.loop-size.invariant.2 c.loop-size-test.true c.requires.below))

pub loop-size-smaller : goal.loop-size-smaller
loop-size-smaller c =
    let at = c.loop-size in
    omega (arith, at.invariant.1, one-le-pow at.length c.args.letters c.requires.some)

pub loop-size-preserved : goal.loop-size-preserved
loop-size-preserved c =
    let at = c.loop-size in
    (omega (arith, short c.args.letters c.loop-size.length c.loop-size.size c.loop-size.left c.args.position c.loop-size.invariant.0 c.loop-size.invariant.1 c.loop-size.invariant.2 c.loop-size-test.true c.requires.below), power-next c.args.letters at.length at.size at.invariant.1, further c.args.letters c.loop-size.length c.loop-size.size c.loop-size.left c.args.position c.loop-size.invariant.1 c.loop-size.invariant.2 c.loop-size-test.true)

pub returns : goal.returns
returns c =
    let at = c.loop-size in
    record { short = at.invariant.0; size = at.invariant.1; left = c.loop-size-test.false; whole = at.invariant.2 }

pub loop-size-init : goal.loop-size-init
loop-size-init c =
    (omega arith, sym (pow-zero c.args.letters), omega (arith, powers-none c.args.letters))
