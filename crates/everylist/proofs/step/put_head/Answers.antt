-- `everylist::step::put_head` meets its contract.
use Rattle.std.proofs.Common.{arith, ◌≤◌, length, ◌∙◌}
use Rattle.text.proofs.TextLaws.{wrote_none}
use Rattle.everylist.specs.{EveryList.{spaced_out}, Steps.{letters_in}}
use Rattle.everylist.proofs.HeadLaws.{letters-room, letters-on, head_done}
use Rattle.everylist.proofs.step.put_head.Goals as goal

pub loop-i-init : goal.loop-i-init
loop-i-init c = unfold letters_in spaced_out in wrote_none _ _

pub put_spaced-end-requires : goal.put_spaced-end-requires
put_spaced-end-requires c =
    omega (arith, c.loop-i.invariant.ends, c.put_bytes-end.ensures.ends, letters-room c.loop-i.i c.args.list.now)

pub loop-i-preserved : goal.loop-i-preserved
loop-i-preserved c =
    let list = c.args.list.now in
    let operator = c.wide.ensures ∙ c.operator-operator.ensures in
    let room : c.put_bytes-end.result ≤ length c.put_bytes-end.new.out = omega (arith, c.put_bytes-end.ensures.ends) in
    letters-on room list c.loop-i.i _ operator c.loop-i.invariant c.put_spaced-end.ensures

pub put_bytes-requires : goal.put_bytes-requires
put_bytes-requires c =
    omega (arith, c.loop-i.invariant.ends, c.put_bytes-end.ensures.ends, letters-room c.loop-i.i c.args.list.now)

pub returns : goal.returns
returns c =
    head_done c.args.list.now c.loop-i.i c.args.tokens (omega arith) c.put_bytes-end.ensures c.loop-i.invariant c.put_bytes.ensures
