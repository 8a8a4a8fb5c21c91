-- `scan::stack::State::call` meets its contract. Assumes nothing.
use Prim.Native.Nat.{◌+◌, ◌-◌}
use Rattle.scan.specs.{Views.{View, read_from, laid}, Turns.{call_laid}, States.{view_of, haves}}
use Rattle.scan.proofs.{TurnLaws.{then}}
use Rattle.scan.proofs.stack.State.call.Goals as goal

pub returns : goal.returns
unfolding call_laid read_from view_of
returns c =
    let at = c.args.at in
    haves (then (λ (u : View). laid (at - 5 + 262144) (read_from (at - 5) u)) c.lay_section-section.ensures.becomes c.lay.ensures)
