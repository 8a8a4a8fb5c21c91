-- `everylist::print` meets its contract: each text stands at a position below 299,593, and the first position that has none ends them.
use Rattle.std.proofs.Common.{sym, arith}
use Rattle.std.proofs.lemmas.List.{length-take-le}
use Rattle.everylist.specs.{Steps.{text_at}, Input.{none_yet, one_more}}
use Rattle.everylist.proofs.{InputLaws.{all-printed}, StepLaws.{stepped-room, stepped-text, stepped-done}, Prints.{text-early}}
use Rattle.everylist.proofs.print.Goals as goal

pub loop-n-init : goal.loop-n-init
loop-n-init g c = (omega arith, record { text = _; steps = none_yet })

pub slice_bounds-out-end : goal.slice_bounds-out-end
slice_bounds-out-end g c = (stepped-room (text_at _ c.loop-n.position) c.loop-n.out _ _ c.in-Some.n c.in-Some.is c.step_at.ensures).0

pub slice_bounds-hand-end : goal.slice_bounds-hand-end
slice_bounds-hand-end g c =
    sym (length-take-le _ _ (stepped-room (text_at _ c.loop-n.position) c.loop-n.out _ _ c.in-Some.n c.in-Some.is c.step_at.ensures).0)

pub hand-requires : goal.hand-requires
hand-requires g c = stepped-text (text_at _ c.loop-n.position) c.loop-n.out _ _ c.in-Some.n c.in-Some.is c.step_at.ensures

pub loop-n-preserved : goal.loop-n-preserved
loop-n-preserved g c =
    let k = c.args.kept.now in
    let room = stepped-room (text_at k c.loop-n.position) c.loop-n.out _ _ c.in-Some.n c.in-Some.is c.step_at.ensures in (
      omega (arith, text-early k c.loop-n.position room.1),
      record {
        text = _;
        steps = one_more c.loop-n.invariant.1.steps _
            (stepped-text (text_at k c.loop-n.position) c.loop-n.out _ _ c.in-Some.n c.in-Some.is c.step_at.ensures);
      },
    )

pub returns : goal.returns
returns g c =
    let k = c.args.kept.now in
    all-printed k c.loop-n.position c.loop-n.invariant.1 (stepped-done (text_at k c.loop-n.position) c.loop-n.out _ _ c.in_default.is c.step_at.ensures)
