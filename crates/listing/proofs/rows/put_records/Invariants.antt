-- `listing::rows::put_records`: the lines of the first i records are laid.
use Rattle.text.specs.Text.{Wrote}
use Rattle.listing.specs.Rows.{record_rows}
use Rattle.listing.proofs.rows.put_records.Given as goal

abbrev pub invariant-loop-i : goal.invariant-loop-i
invariant-loop-i l = Wrote l.initial.out l.at (record_rows l.i l.messages) l.end l.out
