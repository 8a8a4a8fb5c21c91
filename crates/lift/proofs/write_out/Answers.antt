-- `lift::write_out` meets its contract: what was written has at most 4,096 tokens and is held to the limit as far as it goes. Assumes
-- nothing.
use Prim.Native.Nat.{ℕ, ◌*◌, ◌≤◌}
use mathlib.Core.Path.{◌≡◌, ap}
use native.Mathlib.Omega.{arith}
use mathlib.Core.List.{List}
use lib.ListN.{length, length-take}
use Rattle.std.specs.Prelude.{Ok, Err}
use Rattle.std.proofs.lemmas.Result.{err_from_is_err_and}
use Rattle.molang.specs.WriteEntry.{tokens, write_answered, list_after}
use Rattle.molang.specs.Parse.{a_tree}
use Rattle.lift.specs.{declared.Outcome.TheVariants.{Lifted}, Answers.{WasRead}}
use Rattle.lift.specs.Lifting.{writer_call, held_told}
use Rattle.lift.proofs.{CallLaws.{read-room, written-room, written-few, out-unwritten, out_written}}
use Rattle.lift.proofs.write_out.Goals as goal

pub overflow_mul-words : goal.overflow_mul-words
overflow_mul-words c =
    omega (arith, read-room c.args.nodes c.args.tree.now c.requires)

pub slice_bounds-write-end : goal.slice_bounds-write-end
slice_bounds-write-end c =
    omega (arith, read-room c.args.nodes c.args.tree.now c.requires, length-take (7 * c.args.nodes) c.args.tree.now)

-- It wrote so many tokens, which stand within the output.
room : (tree output : List ℕ) (nodes count : ℕ) → WasRead (a_tree nodes) tree
    → tokens count ≡ write_answered (writer_call tree output nodes)
    → {list : List ℕ} → list ≡ list_after (writer_call tree output nodes)
    → 5 * count ≤ length list
room tree output nodes count read told left = rw left (written-room tree output nodes count read told)

pub overflow_mul-end : goal.overflow_mul-end
unfolding writer_call
overflow_mul-end c =
    let wrote = c.in_ok-count.ensures in
    omega (arith, room c.args.tree.now c.args.output.now c.args.nodes c.in_ok-count.count c.requires wrote.result_value wrote.list_after)

pub slice_bounds-nesting-end : goal.slice_bounds-nesting-end
unfolding writer_call
slice_bounds-nesting-end c =
    let wrote = c.in_ok-count.ensures in
    room c.args.tree.now c.args.output.now c.args.nodes c.in_ok-count.count c.requires wrote.result_value wrote.list_after

pub slice_bounds-nesting-end-2 : goal.slice_bounds-nesting-end-2
unfolding writer_call
slice_bounds-nesting-end-2 c =
    let wrote = c.in_ok-count.ensures in
    let n = 5 * c.in_ok-count.count in
    omega (
      arith,
      room c.args.tree.now c.args.output.now c.args.nodes c.in_ok-count.count c.requires wrote.result_value wrote.list_after,
      length-take n c.write.new.list,
    )

pub nesting-requires : goal.nesting-requires
unfolding writer_call
nesting-requires c =
    let wrote = c.in_ok-count.ensures in
    let n = 5 * c.in_ok-count.count in (
      omega (
        arith,
        room c.args.tree.now c.args.output.now c.args.nodes c.in_ok-count.count c.requires wrote.result_value wrote.list_after,
        length-take n c.write.new.list,
      ),
      written-few c.args.tree.now c.args.output.now c.args.nodes c.in_ok-count.count c.requires wrote.result_value,
    )

pub returns-in_err-count : goal.returns-in_err-count
unfolding writer_call
returns-in_err-count c =
    let a = c.args in
    let p = err_from_is_err_and c.from_residual.result c.from_residual.ensures.1 in
    rw (p.1, p.2)
    (out-unwritten a.tree.now a.output.now a.limit a.nodes c.write.new.list c.in_err-count.ensures.list_after _
    c.in_err-count.ensures.result_value)

pub returns-in_err-nesting : goal.returns-in_err-nesting
unfolding writer_call
returns-in_err-nesting c =
    let a = c.args in
    let count = c.in_ok-count.count in
    let p = err_from_is_err_and c.from_residual-in_err-nesting.result c.from_residual-in_err-nesting.ensures.1 in
    rw (p.1, p.2)
    (out_written a.tree.now a.output.now a.limit a.nodes c.write.new.list c.in_ok-count.ensures.list_after count
    c.in_ok-count.ensures.result_value (Err _) (ap (held_told count) c.in_err-nesting.ensures))

pub returns : goal.returns
unfolding writer_call
returns c =
    let a = c.args in
    let count = c.in_ok-count.count in
    out_written a.tree.now a.output.now a.limit a.nodes c.write.new.list c.in_ok-count.ensures.list_after count
    c.in_ok-count.ensures.result_value (Ok (Lifted count)) (ap (held_told count) c.in_ok-nesting.ensures)
