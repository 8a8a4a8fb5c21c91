-- `liftlists::lift_file` is safe. Assumes nothing.
use borrow.Author.Rules.{rules}
use Rattle.liftlists.proofs.lift_file.Goals as goal

pub carry-requires : goal.carry-requires
carry-requires g c = record { list_len = (search rules, c.requires.0); place_reached = c.requires.1 }
