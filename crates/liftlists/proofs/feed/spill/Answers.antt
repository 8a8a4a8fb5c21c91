-- `liftlists::feed::spill` meets its contract: what is handed over is given. Assumes nothing.
use mathlib.Core.{Path.{refl, sym}, List.{[]}}
use native.Mathlib.Omega.{arith}
use lib.{ListN.{take}, Seq.{length-take-le}}
use Rattle.liftlists.proofs.feed.spill.Goals as goal

pub returns-then-at-lt-ENOUGH : goal.returns-then-at-lt-ENOUGH
returns-then-at-lt-ENOUGH g c = (omega arith, λ later. record { gave = []; on = λ rest. refl })

pub returns-then-hand : goal.returns-then-hand
returns-then-hand g c =
    let a = c.args in
    (omega arith, λ later. record { gave = take a.at a.out.now; on = λ rest. refl })

pub slice_bounds-hand-end : goal.slice_bounds-hand-end
slice_bounds-hand-end g c =
    sym (length-take-le _ _ (omega (arith, c.requires.0)))
