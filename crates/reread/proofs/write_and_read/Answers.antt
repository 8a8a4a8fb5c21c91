-- `reread::write_and_read` meets its contract: what was written is legal and is handed on as far as it goes. Assumes nothing.
use Prim.Native.Nat.{ℕ, ◌*◌, ◌≤◌}
use mathlib.Core.{Path.{◌≡◌, sym, ap, ◌∙◌}, List.{List}}
use native.Mathlib.Omega.{arith}
use mir.{Syntax.{w16}, Facts.{to_z-of_z}}
use lib.ListN.{length, take, length-take}
use Rattle.std.proofs.lemmas.Result.{err_from_is_err_and}
use Rattle.molang.specs.{Parse.{a_tree}, WriteEntry.{tokens, write_answered, list_after}, Reread.{Handed, writer_call}}
use Rattle.molang.proofs.Reread.{Readable, tree-room}
use Rattle.write.specs.Answers.{told_of}
use Rattle.std.specs.Prelude.{Err}
use Rattle.reread.specs.{declared.TurnedBack.TheVariants.{Write}, Answers.{left_of, handed_of}, Promises.{CanGoOn}}
use Rattle.own.proofs.CallLaws.{same-call}
use Rattle.reread.proofs.CallLaws.{exact-call, written-list, written-room, has-unwritten, has-written, ok-before, err-before}
use Rattle.reread.proofs.write_and_read.Goals as goal

-- The tree stands within its buffer.
tree-within : (nodes : ℕ) {tree : List ℕ} → CanGoOn (a_tree nodes) tree → 7 * nodes ≤ length tree
tree-within nodes can = omega (arith, tree-room can.first nodes can.says, ap length can.left)

-- The writer wrote so many tokens, which stand within the list that it left.
module _ (h : Handed) (nodes count : ℕ) (can : CanGoOn (a_tree nodes) h.tree) {list : List ℕ}
    (left : list ≡ list_after (writer_call h nodes)) (wrote : tokens count ≡ write_answered (writer_call h nodes)) where
  room : 5 * count ≤ length list
  room = rw left (written-room h nodes count can wrote)

  readable : Readable (take (5 * count) list) count
  readable = rw left (written-list h nodes count can wrote)

pub slice_bounds-write-end : goal.slice_bounds-write-end
slice_bounds-write-end c =
    omega (arith, tree-within c.args.nodes c.requires, length-take (7 * c.args.nodes) c.args.tree.now)

pub overflow_mul-words : goal.overflow_mul-words
overflow_mul-words c = omega (arith, tree-within c.args.nodes c.requires)

pub returns-in_err-count : goal.returns-in_err-count
unfolding writer_call
returns-in_err-count c =
    let a = c.args in
    let h = handed_of a.tree.now a.written.now a.again.now a.messages.now a.work.now a.source_length a.version a.limit in
    let p = err_from_is_err_and c.from_residual.result c.from_residual.ensures.1 in
    let e = err-before _ _ _ c.map_err.ensures.cases c.in_err-count.was in
    let named : c.in_err-count.field-0.0 ≡ Write e.0 = e.2 in
    rw (p.1, p.2) (ap (λ x. left_of (Err x) a.tree.now c.write.new.list a.again.now a.messages.now a.work.now) named
    ∙ has-unwritten h a.nodes c.write.new.list c.write.ensures.list_after e.0 (ap told_of (sym e.1) ∙ c.write.ensures.result_value))

pub overflow_mul-end : goal.overflow_mul-end
unfolding writer_call
overflow_mul-end c =
    let a = c.args in
    let h = handed_of a.tree.now a.written.now a.again.now a.messages.now a.work.now a.source_length a.version a.limit in
    let wrote = ap told_of (sym (ok-before _ _ _ c.map_err.ensures.cases c.in_ok-count.was)) ∙ c.write.ensures.result_value in
    omega (arith, room h a.nodes c.in_ok-count.count c.requires c.write.ensures.list_after wrote)

pub slice_bounds-read_exactly-end : goal.slice_bounds-read_exactly-end
unfolding writer_call
slice_bounds-read_exactly-end c =
    let a = c.args in
    let h = handed_of a.tree.now a.written.now a.again.now a.messages.now a.work.now a.source_length a.version a.limit in
    let wrote = ap told_of (sym (ok-before _ _ _ c.map_err.ensures.cases c.in_ok-count.was)) ∙ c.write.ensures.result_value in
    room h a.nodes c.in_ok-count.count c.requires c.write.ensures.list_after wrote

pub slice_bounds-read_exactly-end-2 : goal.slice_bounds-read_exactly-end-2
unfolding writer_call
slice_bounds-read_exactly-end-2 c =
    let a = c.args in
    let h = handed_of a.tree.now a.written.now a.again.now a.messages.now a.work.now a.source_length a.version a.limit in
    let wrote = ap told_of (sym (ok-before _ _ _ c.map_err.ensures.cases c.in_ok-count.was)) ∙ c.write.ensures.result_value in
    let within = room h a.nodes c.in_ok-count.count c.requires c.write.ensures.list_after wrote in
    omega (arith, within, length-take (5 * c.in_ok-count.count) c.write.new.list)

pub returns : goal.returns
unfolding writer_call
returns c =
    let a = c.args in
    let h = handed_of a.tree.now a.written.now a.again.now a.messages.now a.work.now a.source_length a.version a.limit in
    let wrote = ap told_of (sym (ok-before _ _ _ c.map_err.ensures.cases c.in_ok-count.was)) ∙ c.write.ensures.result_value in
    let count = c.in_ok-count.count in
    let list = c.write.new.list in
    let left = c.write.ensures.list_after in
    has-written h a.nodes list left count wrote c.after_second.result
    (same-call (exact-call (take (5 * count) list) count (readable h a.nodes count c.requires left wrote) h.again h.messages h.work
    h.source_length (to_z-of_z {w = w16} c.ranges.version) h.limit) c.read_exactly-second.ensures)
    c.after_second.ensures
