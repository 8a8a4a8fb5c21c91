-- `lift::after_first` meets its contract, case by case: a tree's list is read again. Assumes nothing.
use mathlib.Core.Path.{◌≡◌, sym, ap, ◌∙◌}
use lib.IntN.{ℤ}
use mir.Syntax.{w16}
use mir.Facts.{to_z-of_z}
use Rattle.std.specs.Prelude.{Ok}
use Rattle.std.proofs.lemmas.Result.{err_from_is_err_and}
use Rattle.parse.specs.declared.Answer.{Answer}
use Rattle.parse.specs.declared.Answer.TheVariants.{Tree, Messages}
use Rattle.own.{specs.Own.{own_call}, proofs.CallLaws.{same-call}}
use Rattle.lift.specs.{Lifting.{Handed, after_first, stopped}, Answers.{handed_of, engine}}
use Rattle.lift.proofs.{CallLaws.{has-second}}
use Rattle.lift.proofs.after_first.Goals as goal

pub after_second-requires : goal.after_second-requires
after_second-requires c =
    let p = c.read_own-second.ensures in
    let is : c.args.first ≡ Ok (Tree c.in-Tree.nodes) = c.in_ok-records.was ∙ ap (λ (a : Answer). Ok a) c.in-Tree.is in
    (rw is at c.requires, record { call = _; says = sym p.told; left = p.tree })

pub returns-in-Tree : goal.returns-in-Tree
returns-in-Tree c =
    let a = c.args in
    let h : Handed =
    handed_of a.list.now a.tree.now a.again.now a.messages.now a.work.now a.output.now (engine a.version a.limit)
    in
    let p =
    same-call (ap (λ (z : ℤ). own_call h.list h.again h.messages h.work z h.to.limit) (to_z-of_z {w = w16} c.ranges.version))
    c.read_own-second.ensures
    in
    let is : a.first ≡ Ok (Tree c.in-Tree.nodes) = c.in_ok-records.was ∙ ap (λ (x : Answer). Ok x) c.in-Tree.is in
    rw is
    (has-second h c.in-Tree.nodes p c.after_second.result _ c.after_second.ensures)

pub returns-in_err-records : goal.returns-in_err-records
unfolding after_first stopped
returns-in_err-records c =
    let p = err_from_is_err_and c.from_residual.result c.from_residual.ensures.1 in
    rw (p.1, p.2, c.in_err-records.was)

pub returns-in-Messages : goal.returns-in-Messages
unfolding after_first stopped
returns-in-Messages c =
    let is : c.args.first ≡ Ok (Messages c.in-Messages.records) = c.in_ok-records.was ∙ ap (λ (a : Answer). Ok a) c.in-Messages.is in
    rw is
