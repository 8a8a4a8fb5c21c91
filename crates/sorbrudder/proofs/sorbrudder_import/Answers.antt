-- `sorbrudder::sorbrudder_import` meets its contract: what `import` promises, with the answer's number. Assumes nothing.
use Rattle.sorbrudder.proofs.{Bounds.{imported-fits}, Counts.{reorders}}
use Rattle.sorbrudder.proofs.sorbrudder_import.Goals as goal

pub counted_number-requires : goal.counted_number-requires
counted_number-requires c = (reorders _ c.import-imported.ensures.result_value (imported-fits _)).0

pub returns : goal.returns
returns c =
    let done = c.import-imported.ensures in
    record { value = (reorders _ done.result_value (imported-fits _)).1 _ c.counted_number.ensures; output_after = done.output_after }
