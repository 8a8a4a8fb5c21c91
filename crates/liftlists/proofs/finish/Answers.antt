-- `liftlists::finish` hands over the last bytes of the lifted file. Assumes nothing.
use native.Mathlib.Omega.{arith}
use Rattle.liftlists.specs.Steps.{held_in}
use Rattle.liftlists.proofs.{GoingLaws.{ends_last}}
use Rattle.liftlists.proofs.finish.Goals as goal

pub close_last-closed-requires : goal.close_last-closed-requires
close_last-closed-requires g c =
    let p = c.requires in record { list_len = (p.list_len.0, omega (arith, p.list_len.1)); fine = p.fine.0 }

pub hand_last-requires : goal.hand_last-requires
hand_last-requires g c =
    let a = c.args in
    ends_last a.to (held_in a.stage a.list.now) a.out.now a.at c.requires.fine.1 c.requires.list_len.2 (omega (arith, c.requires.list_len.1))
    c.close_last-closed.ensures.wrote c.put_bytes-last.ensures
