-- `table::word_count` meets its contract: the count of each mark. Assumes nothing.
use Prim.Native.Nat.{ℕ, ◌*◌}
use mathlib.Core.{Path.{ap, ◌∙◌}, Logic.{inl, inr}}
use Rattle.molang.specs.Lines.{zeros_mark, repeated_mark, message_mark, refused_mark}
use Rattle.table.specs.Marked.{beside_mark, counts_by}
use Rattle.table.proofs.{MarkedLaws.{Apart, count-mark, count-nodes, count-other}}
use Rattle.table.proofs.word_count.Goals as goal

pub returns-in-1000000002 : goal.returns-in-1000000002
unfolding beside_mark counts_by
returns-in-1000000002 c =
    let a = c.args in
    c.wide-size.ensures
    ∙ (c.at.ensures ∙ count-mark a.marked.now _ c.at-2.ensures zeros_mark c.in-1000000002.is)

pub returns-in-1000000003 : goal.returns-in-1000000003
unfolding beside_mark counts_by
returns-in-1000000003 c =
    let a = c.args in
    ap (λ (n : ℕ). 5 * n) (c.wide-size.ensures ∙ c.at.ensures)
    ∙ count-mark a.marked.now _ c.at-2.ensures repeated_mark c.in-1000000003.is

pub returns-in-1000000001 : goal.returns-in-1000000001
returns-in-1000000001 c =
    let a = c.args in
    ap (λ (n : ℕ). 7 * n) c.items-n.ensures ∙ count-nodes a.marked.now _ c.at-2.ensures c.in-1000000001.is

pub returns-in-2000000001 : goal.returns-in-2000000001
unfolding beside_mark counts_by
returns-in-2000000001 c =
    count-mark c.args.marked.now _ c.at-2.ensures message_mark c.in-2000000001.is

pub returns-in-2000000003 : goal.returns-in-2000000003
unfolding beside_mark counts_by
returns-in-2000000003 c =
    count-mark c.args.marked.now _ c.at-2.ensures refused_mark c.in-2000000003.is

pub returns-in_default : goal.returns-in_default
unfolding counts_by
returns-in_default c =
    let a = c.args in
    let no = c.in_default.in_default-own.rest in
    let apart : Apart c.at-2.result (counts_by a.marked.now) =
    (no.0.0.0.0.1, (no.0.0.0.1, (λ e. no.0.0.1 (inl e), (λ e. no.0.0.1 (inr e), (no.0.1, (no.1, tt))))))
    in
    ap (λ (n : ℕ). 5 * n) c.items-n.ensures ∙ count-other a.marked.now _ c.at-2.ensures apart
