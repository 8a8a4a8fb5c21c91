-- `derived::with` meets its contract: the bit is set in the half that has it. Assumes nothing.
use Prim.Native.Nat.{◌-◌, ◌<◌}
use native.Mathlib.Omega.{arith}
use borrow.Author.Rules.{rules}
use Rattle.derived.proofs.{SetLaws.{one_bit, with-low, with-high}}
use Rattle.derived.proofs.with.Goals as goal

pub returns-then-op-lt64 : goal.returns-then-op-lt64
returns-then-op-lt64 c n =
    let a = c.args in
    rw (one_bit a.op (search rules)) (with-low a.used.low a.used.high a.op (search rules) (search rules) n)

pub returns : goal.returns
returns c n =
    let a = c.args in
    let below : a.op - 64 < 64 = omega arith in
    rw (one_bit (a.op - 64) below) (with-high a.used.low a.used.high a.op (search rules) (search rules) n)
