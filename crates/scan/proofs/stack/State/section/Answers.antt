-- `scan::stack::State::section` meets its contract. Assumes nothing.
use Rattle.scan.specs.States.{haves}
use Rattle.scan.proofs.stack.State.section.Goals as goal

pub returns : goal.returns
returns c =
    haves c.lay_section.ensures.becomes
