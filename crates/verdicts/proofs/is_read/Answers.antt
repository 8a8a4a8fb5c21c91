-- `verdicts::is_read` meets its contract: each case of the answer. Assumes nothing.
use Rattle.std.proofs.Common.{◌≡◌, ◌∙◌, ap, Ok}
use Rattle.parse.specs.declared.Answer.TheVariants.{Tree, Messages}
use Rattle.verdicts.specs.Verdicts.{is_read}
use Rattle.verdicts.proofs.is_read.Goals as goal

pub returns-in-Ok-Tree : goal.returns-in-Ok-Tree
unfolding is_read
returns-in-Ok-Tree c =
    let is : c.args.answered ≡ Ok (Tree c.in-Ok-Tree.n) = c.in-Ok-Tree.is ∙ ap Ok (rw c.in-Ok-Tree.is at c.in-Ok-Tree.field-0-is) in
    rw is c.is_count.ensures

pub returns-in-Ok-Messages : goal.returns-in-Ok-Messages
unfolding is_read
returns-in-Ok-Messages c =
    let is : c.args.answered ≡ Ok (Messages c.in-Ok-Messages.n) =
    c.in-Ok-Messages.is ∙ ap Ok (rw c.in-Ok-Messages.is at c.in-Ok-Messages.field-0-is)
    in
    rw is c.is_count-in-Ok-Messages.ensures

pub returns-in-Err : goal.returns-in-Err
returns-in-Err c = unfold is_read in rw (c.in-Err.is, ← c.from.ensures) c.is_refusal.ensures
