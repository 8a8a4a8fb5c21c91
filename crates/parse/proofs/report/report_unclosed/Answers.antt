-- `parse::report::report_unclosed` meets its contract: two records, one after the other. Assumes nothing.
use Rattle.parse.proofs.{ReportLaws.{unclosed-slots, unclosed-reported}}
use Rattle.parse.proofs.report.report_unclosed.Goals as goal

pub returns : goal.returns
returns c =
    let a = c.args in
    let first = c.unclosed in
    let second = c.not_closed in
    unclosed-reported a.work.now a.messages.now c.put.new.messages c.put-2.new.messages a.u first.result second.result
    c.put.ensures first.ensures c.put-2.ensures second.ensures

pub unclosed-requires : goal.unclosed-requires
unclosed-requires c =
    (unclosed-slots c.requires.can).0

pub not_closed-requires : goal.not_closed-requires
not_closed-requires c =
    (unclosed-slots c.requires.can).1
