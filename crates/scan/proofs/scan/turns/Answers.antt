-- `scan::scan::turns` meets its contract. Assumes nothing.
use mathlib.Core.Path.{refl}
use Rattle.scan.proofs.WalkingLaws.{to-want, ended, wants-at, has-at, stopped-there, want-next, have-next}
use Rattle.scan.proofs.scan.turns.Goals as goal

pub loop-turn-init : goal.loop-turn-init
loop-turn-init c = record { came = to-want c.requires; long = refl }

pub want-requires : goal.want-requires
want-requires c = let g = wants-at c.loop-turn.invariant c.in-Want.is in g.can

pub have-requires : goal.have-requires
have-requires c =
    let g = has-at c.loop-turn.invariant c.in-Have.is in g.can

pub returns-in_err-turn-in-Want : goal.returns-in_err-turn-in-Want
returns-in_err-turn-in-Want c = rw c.from_residual.ensures (stopped-there c.loop-turn.invariant c.want.ensures)

pub returns-in_err-turn-in-Have : goal.returns-in_err-turn-in-Have
returns-in_err-turn-in-Have c =
    rw c.from_residual-in_err-turn-in-Have.ensures (stopped-there c.loop-turn.invariant c.have.ensures)

pub returns-in-Done : goal.returns-in-Done
returns-in-Done c = ended c.loop-turn.invariant c.in-Done.is

pub loop-turn-smaller-in_ok-turn-in-Want : goal.loop-turn-smaller-in_ok-turn-in-Want
loop-turn-smaller-in_ok-turn-in-Want c =
    (want-next c.loop-turn.invariant c.in_ok-turn-in-Want.was c.in-Want.is c.want.ensures).1

pub loop-turn-preserved-in_ok-turn-in-Want : goal.loop-turn-preserved-in_ok-turn-in-Want
loop-turn-preserved-in_ok-turn-in-Want c =
    (want-next c.loop-turn.invariant c.in_ok-turn-in-Want.was c.in-Want.is c.want.ensures).0

pub loop-turn-smaller : goal.loop-turn-smaller
loop-turn-smaller c = (have-next c.loop-turn.invariant c.in_ok-turn-in-Have.was c.args.given.openers c.in-Have.is c.have.ensures).1

pub loop-turn-preserved : goal.loop-turn-preserved
loop-turn-preserved c = (have-next c.loop-turn.invariant c.in_ok-turn-in-Have.was c.args.given.openers c.in-Have.is c.have.ensures).0
