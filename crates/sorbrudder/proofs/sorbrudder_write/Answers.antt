-- `sorbrudder::sorbrudder_write` meets its contract: what `write` promises, with the answer's number. Assumes nothing.
use Rattle.sorbrudder.proofs.{Bounds.{written-fits}, Counts.{writes}}
use Rattle.sorbrudder.proofs.sorbrudder_write.Goals as goal

pub counted_number-requires : goal.counted_number-requires
counted_number-requires c = (writes _ c.write-written.ensures.result_value (written-fits _)).0

pub returns : goal.returns
returns c =
    let wrote = c.write-written.ensures in
    record { value = (writes _ wrote.result_value (written-fits _)).1 _ c.counted_number.ensures; list_after = wrote.list_after }
