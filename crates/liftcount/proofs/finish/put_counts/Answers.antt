-- `liftcount::finish::put_counts` meets its contract: five numbers, one behind the other. Assumes nothing.
use Prim.Native.Nat.{◌≤◌}
use native.Mathlib.Omega.{arith}
use lib.ListN.{length}
use Rattle.text.proofs.TextLaws.{wrote_then}
use Rattle.liftcount.specs.{Counting.{count_lines}, Running.{lines_of}}
use Rattle.liftcount.proofs.{FinishLaws.{number-ends}}
use Rattle.liftcount.proofs.finish.put_counts.Goals as goal

pub put_number-same-requires : goal.put_number-same-requires
put_number-same-requires c =
    let first = number-ends c.args.counts.read c.put_number-read.auto.out c.put_number-read.ensures in
    omega (arith, c.requires)

pub put_number-different-requires : goal.put_number-different-requires
put_number-different-requires c =
    let first = number-ends c.args.counts.read c.put_number-read.auto.out c.put_number-read.ensures in
    let second = number-ends c.args.counts.same c.put_number-same.auto.out c.put_number-same.ensures in
    omega (arith, c.requires)

pub put_number-one-requires : goal.put_number-one-requires
put_number-one-requires c =
    let first = number-ends c.args.counts.read c.put_number-read.auto.out c.put_number-read.ensures in
    let second = number-ends c.args.counts.same c.put_number-same.auto.out c.put_number-same.ensures in
    let third = number-ends c.args.counts.different c.put_number-different.auto.out c.put_number-different.ensures in
    omega (arith, c.requires)

pub put_number-requires : goal.put_number-requires
put_number-requires c =
    let first = number-ends c.args.counts.read c.put_number-read.auto.out c.put_number-read.ensures in
    let second = number-ends c.args.counts.same c.put_number-same.auto.out c.put_number-same.ensures in
    let third = number-ends c.args.counts.different c.put_number-different.auto.out c.put_number-different.ensures in
    let fourth = number-ends c.args.counts.one c.put_number-one.auto.out c.put_number-one.ensures in
    omega (arith, c.requires)

pub returns : goal.returns
unfolding lines_of count_lines
returns c =
    let first = number-ends c.args.counts.read c.put_number-read.auto.out c.put_number-read.ensures in
    let second = number-ends c.args.counts.same c.put_number-same.auto.out c.put_number-same.ensures in
    let third = number-ends c.args.counts.different c.put_number-different.auto.out c.put_number-different.ensures in
    let fourth = number-ends c.args.counts.one c.put_number-one.auto.out c.put_number-one.ensures in
    let fifth = number-ends c.args.counts.both c.put_number.auto.out c.put_number.ensures in
    let h : 0 ≤ length c.args.out.now = omega arith in
    record {
      upper_bound = omega (arith, c.requires);
      wrote = wrote_then h
          (wrote_then h (wrote_then h (wrote_then h c.put_number-read.ensures c.put_number-same.ensures) c.put_number-different.ensures)
          c.put_number-one.ensures)
          c.put_number.ensures;
    }
