-- `table::record_word` meets its contract: the second record starts where the items of the first end. Assumes nothing.
use mathlib.Core.Path.{◌∙◌}
use Rattle.table.specs.Marked.{second_at}
use Rattle.table.proofs.{MarkedLaws.{first-record, second-record}}
use Rattle.table.proofs.record_word.Goals as goal

pub returns-then-i-lt-RECORD_WORDS : goal.returns-then-i-lt-RECORD_WORDS
unfolding second_at
returns-then-i-lt-RECORD_WORDS c =
    let a = c.args in
    c.field_word.ensures ∙ first-record a.said.now _ a.i c.next_mark-second.ensures.0 c.if-i-lt-RECORD_WORDS.true

pub returns : goal.returns
unfolding second_at
returns c =
    let a = c.args in
    c.field_word-2.ensures ∙ second-record a.said.now _ a.i c.next_mark-second.ensures.0 c.if-i-lt-RECORD_WORDS.false
