-- `parse::fill_roots` meets its contract: no root, several, or one. Assumes nothing.
use mathlib.Core.Path.{sym, ◌∙◌}
use Rattle.parse.proofs.FillLaws.{none_filled, root-within, several-room, several-filled, one-room, one-filled}
use Rattle.parse.proofs.fill_roots.Goals as goal

pub returns-then-root-eq0 : goal.returns-then-root-eq0
returns-then-root-eq0 c =
    let first = c.first_of-root in
    none_filled c.requires first.result first.ensures c.no_roots.new.messages c.if-root-eq0.true
    c.no_roots.ensures

pub next_of-requires : goal.next_of-requires
next_of-requires c =
    let first = c.first_of-root in
    root-within c.requires first.result first.ensures c.if-root-eq0.false

pub report_roots-requires : goal.report_roots-requires
report_roots-requires c =
    let first = c.first_of-root in
    several-room c.requires first.result first.ensures c.if-root-eq0.false (λ z. c.if-next_of-ne0.true (c.next_of.ensures ∙ z))

pub returns-then-next_of-ne0 : goal.returns-then-next_of-ne0
returns-then-next_of-ne0 c =
    let first = c.first_of-root in
    let report = c.report_roots in
    several-filled c.requires first.result first.ensures c.if-root-eq0.false report.new.work report.new.messages
    (λ z. c.if-next_of-ne0.true (c.next_of.ensures ∙ z)) report.ensures

pub lay_out-nodes-requires : goal.lay_out-nodes-requires
lay_out-nodes-requires c =
    let first = c.first_of-root in
    one-room c.requires first.result first.ensures c.if-root-eq0.false

pub returns : goal.returns
returns c =
    let first = c.first_of-root in
    let laid = c.lay_out-nodes in
    one-filled c.requires first.result first.ensures c.if-root-eq0.false laid.result laid.new.work laid.new.tree
    (sym c.next_of.ensures ∙ c.if-next_of-ne0.false) laid.ensures
