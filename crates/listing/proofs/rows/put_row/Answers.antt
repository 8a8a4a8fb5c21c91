-- `listing::rows::put_row` meets its contract.
use Rattle.std.proofs.Common.{ℕ, ◌≡◌, ◌-◌, ◌∙◌, List, length, take, arith}
use Rattle.std.proofs.lemmas.List.{get_or-take, length-take-le}
use Rattle.text.proofs.TextLaws.{wrote_none}
use Rattle.listing.specs.Rows.{spaced}
use Rattle.listing.proofs.RowLaws.{spaced-length, spaced-on, row_done}
use Rattle.listing.proofs.rows.put_row.Goals as goal

-- All numbers but the last.
front : (ns : List ℕ) → length (take (length ns - 1) ns) ≡ length ns - 1
front ns = length-take-le (length ns - 1) ns (omega arith)

pub loop-number-init : goal.loop-number-init
loop-number-init c = unfold spaced in wrote_none _ _

pub put_number-end-requires : goal.put_number-end-requires
put_number-end-requires c =
    omega (arith, front c.args.numbers.now, c.loop-number.invariant.ends, spaced-length c.loop-number.number-index c.args.numbers.now)

pub loop-number-preserved : goal.loop-number-preserved
loop-number-preserved c =
    let i = c.loop-number.number-index in
    spaced-on (omega arith) c.args.numbers.now i _ (c.wide.ensures ∙ get_or-take _ c.args.numbers.now i 0 (omega (arith, front c.args.numbers.now))) c.loop-number.invariant
    c.put_number-end.ensures

pub put_number-requires : goal.put_number-requires
put_number-requires c =
    omega (arith, front c.args.numbers.now, c.loop-number.invariant.ends, spaced-length c.loop-number.number-index c.args.numbers.now)

pub returns : goal.returns
returns c =
    row_done (omega arith) c.args.numbers.now c.loop-number.number-index _ (omega (arith, front c.args.numbers.now)) c.wide-2.ensures c.loop-number.invariant
    c.put_number.ensures
