-- `table::word` meets its contract: the word of each mark. Assumes nothing.
use mathlib.Core.{Path.{◌∙◌}, Logic.{inl, inr}}
use native.Mathlib.Omega.{arith}
use Rattle.molang.specs.Lines.{message_mark, list_mark, zeros_mark, repeated_mark}
use Rattle.table.specs.Marked.{beside_mark, words_by, operator_word, written_word}
use Rattle.table.proofs.{MarkedLaws.{Apart, has-mark, by-mark, node-mark, other-mark}}
use Rattle.table.proofs.word.Goals as goal

pub returns-in-1000000001 : goal.returns-in-1000000001
returns-in-1000000001 c =
    let a = c.args in
    c.node_word.ensures
    ∙ (rw c.at-in-1000000001.ensures (node-mark a.marked.now a.i _ c.at.ensures c.in-1000000001.is))

pub returns-in-2000000001 : goal.returns-in-2000000001
unfolding beside_mark words_by
returns-in-2000000001 c =
    let a = c.args in
    c.record_word.ensures ∙ by-mark a.marked.now a.i _ c.at.ensures message_mark c.in-2000000001.is

pub returns-in-2000000002 : goal.returns-in-2000000002
unfolding beside_mark words_by written_word
returns-in-2000000002 c =
    let a = c.args in
    c.token_word.ensures
    ∙ (rw c.at-item.ensures (by-mark a.marked.now a.i _ c.at.ensures list_mark c.in-2000000002.is))

pub returns-in-1000000002 : goal.returns-in-1000000002
unfolding beside_mark words_by
returns-in-1000000002 c =
    let a = c.args in
    by-mark a.marked.now a.i _ c.at.ensures zeros_mark c.in-1000000002.is

pub returns-in-1000000003 : goal.returns-in-1000000003
unfolding beside_mark words_by
returns-in-1000000003 c =
    let a = c.args in
    c.token_word-in-1000000003.ensures
    ∙ (rw c.at-in-1000000003.ensures (by-mark a.marked.now a.i _ c.at.ensures repeated_mark c.in-1000000003.is))

pub returns-in_default : goal.returns-in_default
unfolding words_by operator_word
returns-in_default c =
    let a = c.args in
    let no = c.in_default.in_default-own.rest in
    let apart : Apart c.at.result (words_by a.marked.now a.i) =
    (λ e. no.0.0.0.0.1 (inl e), (λ e. no.0.0.0.0.1 (inr e), (no.0.0.0.1, (no.0.0.1, (no.0.1, (no.1, tt))))))
    in
    c.token_word-in_default.ensures ∙ (rw c.at-in_default.ensures (other-mark a.marked.now a.i _ c.at.ensures apart))

pub record_word-requires : goal.record_word-requires
record_word-requires c =
    has-mark c.args.marked.now _ c.at.ensures (omega arith)
