-- `shortlists::total` meets its contract.
use Prim.Native.Nat.{suc, ◌+◌}
use mathlib.Core.Path.{◌≡◌, sym}
use native.Mathlib.{Nat.{pow-zero}, Omega.{arith}}
use Rattle.shortlists.proofs.DigitLaws.{powers-few, power-next, power-next-few, powers-one, powers-next}
use Rattle.shortlists.proofs.total.Goals as goal

pub loop-init : goal.loop-init
loop-init c = (sym (pow-zero c.args.letters), powers-one c.args.letters)

pub overflow_mul-size : goal.overflow_mul-size
overflow_mul-size c =
    omega (arith, power-next-few c.args.letters c.loop.counter c.loop.size c.loop.invariant.0 c.requires.few (omega (arith, c.requires.short)))

pub overflow_add-all : goal.overflow_add-all
overflow_add-all c =
    let at = c.loop in
    let short = c.requires.short in
    let few = powers-few c.args.letters (at.counter + 1) c.requires.few (omega arith) in
    let next = power-next-few c.args.letters at.counter at.size at.invariant.0 c.requires.few (omega arith) in
    omega (arith, at.invariant.1)

pub loop-preserved : goal.loop-preserved
loop-preserved c =
    let k = c.args.letters in
    let at = c.loop in
    let power = power-next k at.counter at.size at.invariant.0 in
    (power, omega (arith, powers-next k (at.counter + 1), at.invariant.1))

pub returns : goal.returns
returns c =
    let last : c.loop.counter + 1 ≡ suc c.args.n = omega arith in
    rw last at c.loop.invariant.1
