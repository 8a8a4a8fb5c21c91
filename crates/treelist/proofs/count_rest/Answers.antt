-- `treelist::count_rest` meets its contract: the bytes of the chunks are counted.
use Rattle.std.proofs.Common.{refl, [], arith}
use Rattle.treelist.proofs.InputLaws.{rest-on}
use Rattle.treelist.proofs.count_rest.Goals as goal

pub loop-init : goal.loop-init
loop-init g c = (omega arith, record { before = []; size = refl; room = omega arith })

pub returns-then-next-space : goal.returns-then-next-space
returns-then-next-space g c =
    let on = c.in-Some.ensures.counted in
    rest-on c.loop.space _ c.loop.rest.last _ c.loop.rest.bytes _ c.loop.invariant.1 (omega (arith, on)) on.0 on.1

pub loop-preserved : goal.loop-preserved
loop-preserved g c =
    let on = c.in-Some.ensures.counted in (
      omega (arith, on),
      rest-on c.loop.space _ c.loop.rest.last _ c.loop.rest.bytes _ c.loop.invariant.1 (omega (arith, on)) on.0 on.1,
    )
