-- `parse::report::report_mismatch` meets its contract: two records, one after the other. Assumes nothing.
use Rattle.parse.proofs.{ReportLaws.{mismatch-slots, mismatch-reported}}
use Rattle.parse.proofs.report.report_mismatch.Goals as goal

pub returns : goal.returns
returns c =
    let a = c.args in
    let first = c.mismatched in
    let second = c.not_closed in
    mismatch-reported a.work.now a.messages.now c.put.new.messages c.put-2.new.messages a.m first.result second.result
    c.put.ensures first.ensures c.put-2.ensures second.ensures

pub mismatched-requires : goal.mismatched-requires
mismatched-requires c =
    let p = mismatch-slots c.requires.can in (p.0, p.1)

pub not_closed-requires : goal.not_closed-requires
not_closed-requires c =
    (mismatch-slots c.requires.can).2
