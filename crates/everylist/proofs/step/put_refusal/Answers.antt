-- `everylist::step::put_refusal` meets its contract: the line at the first position alone. Assumes nothing.
use mathlib.Core.{Path.{refl}, Bool.{true}, List.{[]}}
use native.Mathlib.Omega.{arith}
use lib.ListN.{replicate}
use Rattle.words.specs.Refusals.{reason_number}
use Rattle.everylist.specs.Steps.{kept}
use Rattle.everylist.proofs.{StepLaws.{stepped, refused-first, refused-later}}
use Rattle.everylist.proofs.step.put_refusal.Goals as goal

pub returns-then-position-ne0 : goal.returns-then-position-ne0
returns-then-position-ne0 c =
    let a = c.args in
    stepped a.out.now a.out.now _ (refused-later (reason_number a.reason) a.position (kept 0 [] true) (λ first. omega arith)) refl

pub returns : goal.returns
returns c =
    let put = c.put_answer-end.ensures in
    let a = c.args in
    stepped a.out.now c.put_answer-end.new.out _
    (refused-first (reason_number a.reason) a.position (kept 0 [] true) (replicate 1 0) (replicate 1 0) (omega arith)) (put.upper_bound, rw c.at.ensures at put.wrote)
