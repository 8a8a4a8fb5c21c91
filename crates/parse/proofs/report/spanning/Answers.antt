-- `parse::report::spanning` meets its contract. Assumes nothing.
use Rattle.parse.proofs.report.spanning.Goals as goal

pub returns : goal.returns
returns c =
    cc
