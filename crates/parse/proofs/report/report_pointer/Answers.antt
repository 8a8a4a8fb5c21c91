-- `parse::report::report_pointer` meets its contract: the failure's record, then message 1. Assumes nothing.
use Rattle.parse.proofs.{ReportLaws.{pointer-fails, pointer-reported}}
use Rattle.parse.proofs.report.report_pointer.Goals as goal

pub returns : goal.returns
returns c =
    let a = c.args in
    let second = c.no_roots in
    pointer-reported a.work.now a.messages.now c.report.new.messages second.new.messages a.source a.failure
    c.report.ensures second.ensures

pub report-requires : goal.report-requires
report-requires c =
    pointer-fails c.requires
