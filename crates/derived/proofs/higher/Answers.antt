-- `derived::higher` meets its contract: a word that is not legal leaves the end as it is. Assumes nothing.
use Prim.Native.Nat.{max}
use mathlib.Core.Path.{sym, ap, ◌∙◌}
use Rattle.words.{proofs.CheckLaws.{end-tests}}
use Rattle.derived.proofs.{WordLaws.{good-word, end-bad, end-legal}}
use Rattle.derived.proofs.higher.Goals as goal

pub returns-then-is_err : goal.returns-then-is_err
returns-then-is_err c =
    let a = c.args in
    let word = c.span_word in
    sym (end-bad a.end a.w word.result (sym c.is_err.ensures.value ∙ c.if-is_err.true) (word.ensures ∙ end-tests 0 a.w))

pub returns : goal.returns
returns c =
    let a = c.args in
    let word = c.span_word in
    let good = good-word word.result (sym c.is_err.ensures.value ∙ c.if-is_err.false) in
    c.max.ensures ∙ (ap (max a.end) c.low.ensures ∙ sym (end-legal a.end a.w (sym (word.ensures ∙ end-tests 0 a.w) ∙ good)))
