-- `table::holds` meets its contract.
use Rattle.std.proofs.Common.{ℕ, ◌≡◌, sym, ap, ◌∙◌, length, arith}
use lib.Dec.{leb}
use Rattle.table.specs.Marked.{holds_from}
use Rattle.table.proofs.MarkedLaws.{word_same, word-other, word_none}
use Rattle.table.proofs.holds.Goals as goal

pub loop-i-init : goal.loop-i-init
loop-i-init c = ap (λ (n : ℕ). holds_from 0 c.args.said.now n c.args.rest c.args.buffer.now) c.said_count-n.ensures

pub returns-then-buffer-i : goal.returns-then-buffer-i
returns-then-buffer-i c =
    let a = c.args in
    sym
    (word-other a.said.now _ a.rest a.buffer.now c.loop-i.i c.loop-i-test.true
    (λ e. c.if-buffer-i.true (e ∙ sym c.said_word.ensures)))
    ∙ c.loop-i.invariant

pub loop-i-preserved : goal.loop-i-preserved
loop-i-preserved c =
    let a = c.args in
    let same = c.if-buffer-i.false ∙ c.said_word.ensures in
    sym (word_same a.said.now _ a.rest a.buffer.now c.loop-i.i c.loop-i-test.true same) ∙ c.loop-i.invariant

pub returns : goal.returns
returns c =
    let a = c.args in
    let end : length a.buffer.now ≡ c.loop-i.i = omega arith in
    ap (leb c.said_count-n.result) end
    ∙ (sym (word_none a.said.now _ a.rest a.buffer.now c.loop-i.i c.loop-i-test.false) ∙ c.loop-i.invariant)
