-- `held::ask_edit` meets its contract: a refusal of its own rows, or the new list as the entry answers it. Assumes nothing.
use Prim.Native.Nat.{ℕ}
use mathlib.Core.Path.{◌≡◌, sym}
use native.Mathlib.Omega.{arith}
use mir.{Syntax.{w16}, Val.{of_z, to_z}}
use lib.{ListN.{length-replicate}, Seq.{length-take-le}}
use borrow.Author.Rules.{rules}
use Rattle.std.proofs.lemmas.Result.{err_from_is_err_and}
use Rattle.held.specs.{Held.{held_list, lent_call, edit_call}, Answers.{state, edit, lent}}
use Rattle.held.proofs.{FaultLaws.{ask-within}, CallLaws.{can-edit, ask-turned, has-asked}}
use Rattle.held.proofs.ask_edit.Goals as goal

pub returns-in_err-ask_fault : goal.returns-in_err-ask_fault
returns-in_err-ask_fault c =
    let a = c.args in
    let p = err_from_is_err_and c.from_residual.result c.from_residual.ensures.1 in
    rw (p.1, p.2)
    (ask-turned (state a.held a.words.now) (edit a.place a.removed a.put.now) (lent a.tree.now a.messages.now a.work.now a.limit)
    c.in_err-ask_fault.ensures)

-- Below: no row answers, so the edit is within the held list.

pub slice_bounds-read_edited-end-2 : goal.slice_bounds-read_edited-end-2
slice_bounds-read_edited-end-2 c =
    let a = c.args in
    let w = ask-within (state a.held a.words.now) a.place a.removed c.in_ok-ask_fault.ensures in
    sym (length-take-le _ _ (omega (arith, w.room, w.few)))

pub read_edited-requires : goal.read_edited-requires
unfolding held_list
read_edited-requires c =
    let a = c.args in
    can-edit (state a.held a.words.now) (edit a.place a.removed a.put.now)
    (ask-within (state a.held a.words.now) a.place a.removed c.in_ok-ask_fault.ensures)
    (length-replicate {A = ℕ} 20480 0)

pub returns : goal.returns
unfolding edit_call lent_call held_list
returns c =
    let a = c.args in
    let same : to_z w16 (of_z w16 a.held.version) ≡ a.held.version = search rules in
    has-asked (state a.held a.words.now) (edit a.place a.removed a.put.now) (lent a.tree.now a.messages.now a.work.now a.limit)
    c.in_ok-ask_fault.ensures (rw same at c.read_edited.ensures.has_parsed)

pub overflow_mul-end : goal.overflow_mul-end
overflow_mul-end c =
    let a = c.args in
    let w = ask-within (state a.held a.words.now) a.place a.removed c.in_ok-ask_fault.ensures in
    omega (arith, w.few)
