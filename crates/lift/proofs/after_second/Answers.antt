-- `lift::after_second` meets its contract, case by case. Assumes nothing.
use Prim.Native.Nat.{◌*◌}
use mathlib.Core.{Path.{◌≡◌, refl, sym, ap, ◌∙◌}, Bool.{true, false}}
use lib.ListN.{take}
use Rattle.std.specs.Prelude.{Ok}
use Rattle.std.proofs.lemmas.Result.{err_from_is_err_and}
use Rattle.molang.specs.Lift.{eq_words}
use Rattle.parse.specs.declared.Answer.{Answer}
use Rattle.parse.specs.declared.Answer.TheVariants.{Tree, Messages}
use Rattle.lift.specs.Lifting.{after_second, or_written_out, same_told}
use Rattle.lift.proofs.{CallLaws.{read-room}}
use Rattle.lift.proofs.after_second.Goals as goal

pub returns-in_err-second : goal.returns-in_err-second
unfolding after_second
returns-in_err-second c =
    let p = err_from_is_err_and c.from_residual.result c.from_residual.ensures.1 in
    rw (p.1, p.2, c.in_err-second.was)

pub same_trees-requires : goal.same_trees-requires
same_trees-requires c =
    let is : c.args.second ≡ Ok (Tree c.in-Tree.m) = c.in_ok-second.was ∙ ap (λ (a : Answer). Ok a) c.in-Tree.is in
    (read-room c.args.nodes c.args.tree.now c.requires.0, read-room c.in-Tree.m c.args.again.now (rw is at c.requires.1))

pub returns-then-same_trees : goal.returns-then-same_trees
unfolding after_second or_written_out same_told
returns-then-same_trees c =
    let a = c.args in
    let is : a.second ≡ Ok (Tree c.in-Tree.m) = c.in_ok-second.was ∙ ap (λ (x : Answer). Ok x) c.in-Tree.is in
    let same : eq_words (take (7 * a.nodes) a.tree.now) (take (7 * c.in-Tree.m) a.again.now) ≡ true =
    sym c.same_trees.ensures ∙ c.if-same_trees.true
    in
    rw (is, same) refl

pub returns-in-Messages : goal.returns-in-Messages
unfolding after_second
returns-in-Messages c =
    let is : c.args.second ≡ Ok (Messages c.in-Messages.field-0) = c.in_ok-second.was ∙ ap (λ (a : Answer). Ok a) c.in-Messages.is in
    rw is c.write_out.ensures

pub returns-else-same_trees : goal.returns-else-same_trees
unfolding after_second or_written_out same_told
returns-else-same_trees c =
    let a = c.args in
    let is : a.second ≡ Ok (Tree c.in-Tree.m) = c.in_ok-second.was ∙ ap (λ (x : Answer). Ok x) c.in-Tree.is in
    let other : eq_words (take (7 * a.nodes) a.tree.now) (take (7 * c.in-Tree.m) a.again.now) ≡ false =
    sym c.same_trees.ensures ∙ c.if-same_trees.false
    in
    rw (is, other) c.write_out-in-Tree.ensures
