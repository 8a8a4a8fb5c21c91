-- `liftcount::judge::read_twice` meets its contract: two readings, and what they come to. Assumes nothing.
use mathlib.Core.Path.{◌∙◌}
use native.Mathlib.Omega.{arith}
use mir.Facts.{to_z-of_z}
use Rattle.std.proofs.lemmas.Result.{err_from_is_err_and}
use Rattle.molang.specs.Words.{operator_field, words_refusal}
use Rattle.own.specs.Own.{reading_of}
use Rattle.liftcount.specs.Judging.{verdict_told, judged}
use Rattle.liftcount.proofs.{JudgeLaws.{holds, verdict-told, turned-back}}
use Rattle.liftcount.proofs.judge.read_twice.Goals as goal

pub returns-in_err-first : goal.returns-in_err-first
returns-in_err-first c =
    let p = err_from_is_err_and c.from_residual.result c.from_residual.ensures.1 in
    rw (p.1, p.2) (turned-back _ _ _ _ _ c.in_err-first.ensures.result_value)

pub returns-in_err-second : goal.returns-in_err-second
returns-in_err-second c =
    let p = err_from_is_err_and c.from_residual-in_err-second.result c.from_residual-in_err-second.ensures.1 in
    rw (p.1, p.2) (turned-back _ _ _ _ _ c.in_err-second.ensures.result_value)

pub compared-requires : goal.compared-requires
compared-requires c =
    let list = c.args.list.now in
    let fault = words_refusal 0 operator_field 0 list in (
      rw c.in_ok-first.ensures.result_value (holds fault list _ _ (omega (arith, c.requires))),
      rw c.in_ok-second.ensures.result_value (holds fault list _ _ (omega (arith, c.requires))),
    )

pub returns : goal.returns
returns c =
    let a = c.args in
    let list = a.list.now in
    let fault = words_refusal 0 operator_field 0 list in
    let first = c.in_ok-first.ensures in
    let second = c.in_ok-second.ensures in
    c.compared.ensures
    ∙ (λ i. verdict_told (first.result_value i) (second.result_value i) (first.tree_after i) (second.tree_after i))
    ∙ verdict-told fault (reading_of list _) (reading_of list _) a.tree.now a.again.now
    ∙ (λ i. judged fault (reading_of list (to_z-of_z c.ranges.from i)) (reading_of list (to_z-of_z c.ranges.to i)))
