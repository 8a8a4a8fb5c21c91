-- `listing::rows::put_records` meets its contract.
use Rattle.std.proofs.Common.{◌≡◌, ◌+◌, ◌-◌, ◌*◌, length, take, drop, length-take, length-drop, arith}
use Rattle.text.proofs.TextLaws.{wrote_none}
use Rattle.listing.specs.Rows.{record_rows}
use Rattle.listing.proofs.RowLaws.{record-rows-length, records-on}
use Rattle.listing.proofs.rows.put_records.Goals as goal

pub loop-i-init : goal.loop-i-init
loop-i-init c = unfold record_rows in wrote_none _ _

pub put_row-end-requires : goal.put_row-end-requires
put_row-end-requires c =
    let messages = c.args.messages.now in
    let i = c.loop-i.i in
    let eights : length (take (8 * i + 8 - 8 * i) (drop (8 * i) messages)) ≡ 8 =
    omega (arith, length-take (8 * i + 8 - 8 * i) (drop (8 * i) messages), length-drop (8 * i) messages)
    in
    let room = record-rows-length i messages (omega arith) in
    (omega (arith, c.loop-i.invariant.ends), omega arith)

pub loop-i-preserved : goal.loop-i-preserved
loop-i-preserved c =
    let i = c.loop-i.i in
    let size : 8 * i + 8 - 8 * i ≡ 8 = omega arith in
    records-on (omega arith) c.args.messages.now i c.loop-i.invariant (rw size at c.put_row-end.ensures)

pub returns : goal.returns
returns c = let all : c.loop-i.i ≡ c.args.n = omega arith in rw all at c.loop-i.invariant
