-- `listing::rows::put_row`: the first numbers are laid, each with a space.
use Rattle.text.specs.Text.{Wrote}
use Rattle.listing.specs.Rows.{spaced}
use Rattle.listing.proofs.rows.put_row.Given as goal

abbrev pub invariant-loop-number : goal.invariant-loop-number
invariant-loop-number l = Wrote l.initial.out l.at (spaced l.number-index l.numbers) l.end l.out
