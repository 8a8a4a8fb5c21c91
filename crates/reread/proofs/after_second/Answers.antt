-- `reread::after_second` meets its contract, case by case. Assumes nothing.
use mathlib.Core.Path.{◌≡◌, refl, sym, ap, ◌∙◌}
use Rattle.std.specs.Prelude.{Ok}
use Rattle.molang.specs.Reread.{second_told}
use Rattle.parse.specs.{declared.Answer.TheVariants.{Tree, Messages}, Answers.{told_of}}
use Rattle.reread.proofs.after_second.Goals as goal

pub returns-in-Ok-Tree : goal.returns-in-Ok-Tree
unfolding second_told
returns-in-Ok-Tree c =
    let a = c.args in
    let answer : c.in-Ok-Tree.field-0 ≡ Tree c.in-Ok-Tree.again = rw c.in-Ok-Tree.is at c.in-Ok-Tree.field-0-is in
    sym (ap (λ r. second_told a.nodes a.count (told_of r)) (c.in-Ok-Tree.is ∙ ap (λ x. Ok x) answer))

pub returns-in-Ok-Messages : goal.returns-in-Ok-Messages
unfolding second_told
returns-in-Ok-Messages c =
    let a = c.args in
    let answer : c.in-Ok-Messages.field-0 ≡ Messages c.in-Ok-Messages.records = rw c.in-Ok-Messages.is at c.in-Ok-Messages.field-0-is in
    sym (ap (λ r. second_told a.nodes a.count (told_of r)) (c.in-Ok-Messages.is ∙ ap (λ x. Ok x) answer))

pub returns-in-Err : goal.returns-in-Err
unfolding second_told
returns-in-Err c = rw c.in-Err.is refl
