-- `held::commit_edit` meets its contract: a refusal of its own rows, or the new list, kept if the entry accepts it. Assumes nothing.
use Prim.Native.Nat.{ℕ, ◌*◌, ◌≤◌}
use mathlib.Core.Path.{◌≡◌, sym, ◌∙◌}
use native.Mathlib.Omega.{arith}
use mir.{Syntax.{w16}, Val.{of_z, to_z}}
use lib.{ListN.{length, length-replicate}, Seq.{length-take-le}}
use borrow.Author.Rules.{rules}
use Rattle.std.proofs.lemmas.Result.{err_from_is_err_and}
use Rattle.words.proofs.RecordLaws.{laid-front}
use Rattle.held.specs.{Held.{held_list, edited, lent_call, edit_call}, Answers.{state, edit, lent}}
use Rattle.held.proofs.{FaultLaws.{commit-within}, KeepLaws.{kept-front}}
use Rattle.held.proofs.CallLaws.{can-edit, next-held, commit-turned, commit-back, commit-words, has-committed}
use Rattle.held.proofs.commit_edit.Goals.{After-with_edit-next}
use Rattle.held.proofs.commit_edit.Goals as goal

pub returns-in_err-commit_fault : goal.returns-in_err-commit_fault
returns-in_err-commit_fault c =
    let a = c.args in
    let p = err_from_is_err_and c.from_residual.result c.from_residual.ensures.1 in
    rw (p.1, p.2)
    (commit-turned (state a.held a.words.now) a.seen (edit a.place a.removed a.put.now)
    (lent a.tree.now a.messages.now a.work.now a.limit) c.in_err-commit_fault.ensures)

-- Below: no row answers, so the edit is within the held list and there is a next count.

pub overflow_mul-end : goal.overflow_mul-end
overflow_mul-end c =
    let a = c.args in
    let s = state a.held a.words.now in
    let e = edit a.place a.removed a.put.now in
    let l = lent a.tree.now a.messages.now a.work.now a.limit in
    let w = commit-within s a.seen a.place a.removed c.in_ok-commit_fault.ensures in
    omega (arith, w.0.few)

pub slice_bounds-read_edited-end-2 : goal.slice_bounds-read_edited-end-2
slice_bounds-read_edited-end-2 c =
    let a = c.args in
    let s = state a.held a.words.now in
    let e = edit a.place a.removed a.put.now in
    let l = lent a.tree.now a.messages.now a.work.now a.limit in
    let w = commit-within s a.seen a.place a.removed c.in_ok-commit_fault.ensures in
    omega (arith, w.0.room, w.0.few)

pub slice_bounds-read_edited-end-3 : goal.slice_bounds-read_edited-end-3
slice_bounds-read_edited-end-3 c =
    let a = c.args in
    let s = state a.held a.words.now in
    let e = edit a.place a.removed a.put.now in
    let l = lent a.tree.now a.messages.now a.work.now a.limit in
    let w = commit-within s a.seen a.place a.removed c.in_ok-commit_fault.ensures in
    sym (length-take-le _ _ (omega (arith, w.0.room, w.0.few)))

pub read_edited-requires : goal.read_edited-requires
unfolding held_list
read_edited-requires c =
    let a = c.args in
    let s = state a.held a.words.now in
    let e = edit a.place a.removed a.put.now in
    let l = lent a.tree.now a.messages.now a.work.now a.limit in
    let w = commit-within s a.seen a.place a.removed c.in_ok-commit_fault.ensures in
    can-edit s e w.0 (length-replicate {A = ℕ} 20480 0)

pub returns-in_err-answer : goal.returns-in_err-answer
unfolding edit_call lent_call held_list
returns-in_err-answer c =
    let a = c.args in
    let s = state a.held a.words.now in
    let e = edit a.place a.removed a.put.now in
    let l = lent a.tree.now a.messages.now a.work.now a.limit in
    let w = commit-within s a.seen a.place a.removed c.in_ok-commit_fault.ensures in
    let same : to_z w16 (of_z w16 a.held.version) ≡ a.held.version = search rules in
    let p = err_from_is_err_and c.from_residual-in_err-answer.result c.from_residual-in_err-answer.ensures.1 in
    rw (p.1, p.2) (commit-back s a.seen e l c.in_ok-commit_fault.ensures (rw same at c.in_err-answer.ensures.has_parsed))

pub with_edit-next-requires : goal.with_edit-next-requires
with_edit-next-requires c =
    let a = c.args in
    let s = state a.held a.words.now in
    let e = edit a.place a.removed a.put.now in
    let l = lent a.tree.now a.messages.now a.work.now a.limit in
    let w = commit-within s a.seen a.place a.removed c.in_ok-commit_fault.ensures in
    record { few = w.0.few; within = omega (arith, w.0.place, w.0.removed); next = w.1 }

-- The words of the new list, which the slice and the array have room for.
kept-words : (c : After-with_edit-next) → let a = c.args in
    (5 * c.with_edit-next.result.tokens ≡ length (edited (edit a.place a.removed a.put.now) (held_list (state a.held a.words.now))))
    × (5 * c.with_edit-next.result.tokens ≤ 20480)
    × (20480 ≤ length a.words.now)
    × (length c.read_edited.new.new ≡ 20480)
unfolding edit_call lent_call held_list
kept-words c =
    let a = c.args in
    let s = state a.held a.words.now in
    let e = edit a.place a.removed a.put.now in
    let l = lent a.tree.now a.messages.now a.work.now a.limit in
    let w = commit-within s a.seen a.place a.removed c.in_ok-commit_fault.ensures in
    let same : to_z w16 (of_z w16 a.held.version) ≡ a.held.version = search rules in
    let k = commit-words s a.seen e l (rw same at c.in_ok-answer.ensures.has_parsed) (c.with_edit-next.ensures ∙ next-held s e w.0) in
    (k.0, k.1, w.0.room, c.read_edited.auto.new ∙ length-replicate {A = ℕ} 20480 0)

pub overflow_mul-kept : goal.overflow_mul-kept
overflow_mul-kept c =
    let k = kept-words (goal.at.overflow_mul-kept c).After-with_edit-next in omega (arith, k.1, k.2, k.3)

pub slice_bounds-new-end : goal.slice_bounds-new-end
slice_bounds-new-end c =
    let k = kept-words (goal.at.slice_bounds-new-end c).After-with_edit-next in omega (arith, k.1, k.2, k.3)

pub slice_bounds-copy_words-end : goal.slice_bounds-copy_words-end
slice_bounds-copy_words-end c =
    let k = kept-words (goal.at.slice_bounds-copy_words-end c).After-with_edit-next in sym (length-take-le _ _ (omega (arith, k.1, k.2, k.3)))

pub copy_words-requires : goal.copy_words-requires
copy_words-requires c =
    let k = kept-words (goal.at.copy_words-requires c).After-with_edit-next in
    omega (arith, length-take-le (5 * c.with_edit-next.result.tokens) c.read_edited.new.new (omega (arith, k.1, k.3)), k.1, k.2)

pub returns : goal.returns
unfolding edit_call lent_call held_list
returns c =
    let a = c.args in
    let s = state a.held a.words.now in
    let e = edit a.place a.removed a.put.now in
    let l = lent a.tree.now a.messages.now a.work.now a.limit in
    let w = commit-within s a.seen a.place a.removed c.in_ok-commit_fault.ensures in
    let same : to_z w16 (of_z w16 a.held.version) ≡ a.held.version = search rules in
    let k = commit-words s a.seen e l (rw same at c.in_ok-answer.ensures.has_parsed) (c.with_edit-next.ensures ∙ next-held s e w.0) in
    has-committed s a.seen e l (rw same at c.in_ok-answer.ensures.has_parsed) (c.with_edit-next.ensures ∙ next-held s e w.0)
    c.in_ok-commit_fault.ensures
    (c.copy_words.ensures ∙ laid-front _ _ ∙ kept-front _ _ a.words.now k.0 c.in_ok-answer.ensures.after)
