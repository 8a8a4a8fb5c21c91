-- `sorbrudder::sorbrudder_export` meets its contract: what `export` promises, with the answer's number. Assumes nothing.
use Rattle.sorbrudder.proofs.{Bounds.{exported-fits}, Counts.{reorders}}
use Rattle.sorbrudder.proofs.sorbrudder_export.Goals as goal

pub counted_number-requires : goal.counted_number-requires
counted_number-requires c = (reorders _ c.export-exported.ensures.result_value (exported-fits _)).0

pub returns : goal.returns
returns c =
    let done = c.export-exported.ensures in
    record { value = (reorders _ done.result_value (exported-fits _)).1 _ c.counted_number.ensures; output_after = done.output_after }
