-- `listing::rows::put_nodes`: the lines of the first i nodes are laid.
use Rattle.text.specs.Text.{Wrote}
use Rattle.listing.specs.Rows.{node_rows}
use Rattle.listing.proofs.rows.put_nodes.Given as goal

abbrev pub invariant-loop-i : goal.invariant-loop-i
invariant-loop-i l = Wrote l.initial.out l.at (node_rows l.i l.tree) l.end l.out
