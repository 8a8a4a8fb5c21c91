-- `parse::report::report` meets its contract. Assumes nothing.
use Rattle.parse.proofs.{ReportLaws.{failed-slots, failed-reported}}
use Rattle.parse.proofs.report.report.Goals as goal

pub returns : goal.returns
returns c =
    let a = c.args in
    let r = c.record_of in
    let put = c.put in
    failed-reported a.work.now a.messages.now put.new.messages a.source a.failure r.result put.ensures r.ensures

pub record_of-requires : goal.record_of-requires
record_of-requires c =
    failed-slots c.requires
