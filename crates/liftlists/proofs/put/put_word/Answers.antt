-- `liftlists::put::put_word` meets its contract. Assumes nothing.
use Rattle.liftlists.specs.LiftedFile.{bytes_of}
use Rattle.liftlists.proofs.put.put_word.Goals as goal

pub returns : goal.returns
returns c = unfold bytes_of in rw c.to_le_bytes.ensures at c.put_bytes.ensures
