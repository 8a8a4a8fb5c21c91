-- `streams::fill` meets its contract: it is told to be full only if the bytes fill the buffer.
use Rattle.std.proofs.Common.{rules, arith, ◌+◌, ◌-◌, ◌≡◌, length}
use Rattle.streams.proofs.Consuming.{none-taken, taken-on, taken-failed}
use Rattle.streams.proofs.fill.Goals as goal

pub loop-bytes-init : goal.loop-bytes-init
loop-bytes-init g c = (omega arith, none-taken (g.R.Read.remaining c.args.input.now))

pub returns-in_default-clause-taken : goal.returns-in_default-clause-taken
returns-in_default-clause-taken g c =
    taken-failed _ _ _ c.loop-bytes.bytes _ c.loop-bytes.buffer c.read.new.buf c.loop-bytes.invariant.0 c.loop-bytes.invariant.1
    c.in_default.ensures.bytes

pub returns-then-more-eq0-clause-taken : goal.returns-then-more-eq0-clause-taken
returns-then-more-eq0-clause-taken g c =
    let none : c.loop-bytes.bytes + c.in-Ok.more ≡ c.loop-bytes.bytes = omega (arith, c.if-more-eq0.true) in
    rw none at
    (taken-on (g.R.Read.remaining c.args.input.now) (g.R.Read.remaining c.loop-bytes.input) (g.R.Read.remaining c.read.new.self)
    c.loop-bytes.bytes (length c.loop-bytes.buffer - c.loop-bytes.bytes) c.in-Ok.more c.loop-bytes.buffer c.read.new.buf c.loop-bytes.invariant.0 c.in-Ok.ensures.bound.0
    c.loop-bytes.invariant.1
    c.in-Ok.ensures.bytes.0)

pub loop-bytes-preserved : goal.loop-bytes-preserved
loop-bytes-preserved g c = (
  search rules,
  taken-on _ _ _ c.loop-bytes.bytes _ c.in-Ok.more c.loop-bytes.buffer c.read.new.buf c.loop-bytes.invariant.0
      c.in-Ok.ensures.bound.0
      c.loop-bytes.invariant.1
      c.in-Ok.ensures.bytes.0,
)
