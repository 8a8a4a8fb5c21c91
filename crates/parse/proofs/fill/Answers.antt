-- `parse::fill` meets its contract: what is left says which case of the answer it stands for. Assumes nothing.
use Rattle.parse.proofs.FillLaws.{fill-report, fill-report-two, failed-filled, mismatch-filled, unclosed-filled, pointer-filled}
use Rattle.parse.proofs.fill.Goals as goal

pub fill_roots-requires : goal.fill_roots-requires
fill_roots-requires c =
    rw c.in-Ok.is at c.requires

pub report-requires : goal.report-requires
report-requires c =
    rw (c.in-Err-Failed.is, rw c.in-Err-Failed.is at c.in-Err-Failed.field-0-is) at (fill-report c.requires)

pub report_mismatch-requires : goal.report_mismatch-requires
report_mismatch-requires c =
    rw (c.in-Err-Mismatched.is, rw c.in-Err-Mismatched.is at c.in-Err-Mismatched.field-0-is) at (fill-report-two c.requires)

pub report_unclosed-requires : goal.report_unclosed-requires
report_unclosed-requires c =
    rw (c.in-Err-Unclosed.is, rw c.in-Err-Unclosed.is at c.in-Err-Unclosed.field-0-is) at (fill-report-two c.requires)

pub report_pointer-requires : goal.report_pointer-requires
report_pointer-requires c =
    rw (c.in-Err-PointerFailed.is, rw c.in-Err-PointerFailed.is at c.in-Err-PointerFailed.field-0-is) at (fill-report c.requires)

pub returns-in-Ok : goal.returns-in-Ok
returns-in-Ok c =
    rw c.in-Ok.is c.fill_roots.ensures

pub returns-in-Err-Failed : goal.returns-in-Err-Failed
returns-in-Err-Failed c =
    let a = c.args in
    rw (c.in-Err-Failed.is, rw c.in-Err-Failed.is at c.in-Err-Failed.field-0-is) (failed-filled a.work.now a.tree.now a.messages.now c.report.new.messages
    a.n a.source c.report.ensures)

pub returns-in-Err-Mismatched : goal.returns-in-Err-Mismatched
returns-in-Err-Mismatched c =
    let a = c.args in
    rw (c.in-Err-Mismatched.is, rw c.in-Err-Mismatched.is at c.in-Err-Mismatched.field-0-is) (mismatch-filled a.work.now a.tree.now a.messages.now
    c.report_mismatch.new.messages a.n a.source (c.report_mismatch.ensures a.source))

pub returns-in-Err-Unclosed : goal.returns-in-Err-Unclosed
returns-in-Err-Unclosed c =
    let a = c.args in
    rw (c.in-Err-Unclosed.is, rw c.in-Err-Unclosed.is at c.in-Err-Unclosed.field-0-is) (unclosed-filled a.work.now a.tree.now a.messages.now
    c.report_unclosed.new.messages a.n a.source (c.report_unclosed.ensures a.source))

pub returns-in-Err-PointerFailed : goal.returns-in-Err-PointerFailed
returns-in-Err-PointerFailed c =
    let a = c.args in
    rw (c.in-Err-PointerFailed.is, rw c.in-Err-PointerFailed.is at c.in-Err-PointerFailed.field-0-is) (pointer-filled a.work.now a.tree.now a.messages.now
    c.report_pointer.new.messages a.n a.source c.report_pointer.ensures)
