-- `parse::parse` meets its contract: a call that the table turns back, or one that is read, after which the work buffer is cleared. Assumes
-- nothing.
use Prim.Native.Nat.{ℕ, ◌+◌, ◌*◌}
use lib.ListN.{replicate}
use mir.Facts.{to_z-of_z}
use mathlib.Core.Path.{◌≡◌, sym, ap, ◌∙◌}
use native.Mathlib.Omega.{arith}
use Rattle.molang.specs.Parse.{Call}
use Rattle.std.proofs.lemmas.Result.{err_from_is_err_and}
use Rattle.accept.{specs.Accepting.{is_read}, proofs.AcceptLaws.{Readable, checked, reads-call}}
use Rattle.parse.specs.{Answers.{call}}
use Rattle.parse.proofs.{EntryLaws.{refused-meets, read_meets, call-reads, part-long}}
use Rattle.parse.proofs.parse.Goals as goal
use mir.Syntax.{w16}

known : (k : Call) (n : ℕ) → is_read n ≡ checked k → Readable k n
known k n e = (reads-call k n e).1

pub returns-in_err-n : goal.returns-in_err-n
returns-in_err-n c =
    let p = err_from_is_err_and c.from_residual.result c.from_residual.ensures.1 in
    rw (p.1, p.2) (refused-meets (call c.args.list.now c.args.tree.now c.args.messages.now c.args.work.now c.args.source_length c.args.version c.args.used_low c.args.used_high c.args.limit) _ c.in_err-n.ensures)

pub returns : goal.returns
returns c =
    let n = c.in_ok-n.n in
    let clear = c.clear in
    let e : is_read n ≡ checked (call c.args.list.now c.args.tree.now c.args.messages.now c.args.work.now c.args.source_length c.args.version c.args.used_low c.args.used_high c.args.limit) = c.in_ok-n.ensures in
    let long = part-long c.read-answered.new.work c.args.work.now (64 * n + 64) (known (call c.args.list.now c.args.tree.now c.args.messages.now c.args.work.now c.args.source_length c.args.version c.args.used_low c.args.used_high c.args.limit) n e).work c.read-answered.auto.work in
    read_meets (call c.args.list.now c.args.tree.now c.args.messages.now c.args.work.now c.args.source_length c.args.version c.args.used_low c.args.used_high c.args.limit) n c.read-answered.result c.read-answered.new.tree c.read-answered.new.messages clear.new.work e
    (rw (to_z-of_z {w = w16} c.ranges.version) at c.read-answered.ensures) (clear.ensures ∙ ap (λ (j : ℕ). replicate j 0) long)

pub overflow_cast-source : goal.overflow_cast-source
overflow_cast-source c =
    omega (arith, (known (call c.args.list.now c.args.tree.now c.args.messages.now c.args.work.now c.args.source_length c.args.version c.args.used_low c.args.used_high c.args.limit) c.in_ok-n.n (c.in_ok-n.ensures)).source)

pub overflow_mul-end : goal.overflow_mul-end
overflow_mul-end c =
    omega (arith, (known (call c.args.list.now c.args.tree.now c.args.messages.now c.args.work.now c.args.source_length c.args.version c.args.used_low c.args.used_high c.args.limit) c.in_ok-n.n (c.in_ok-n.ensures)).tokens)

pub overflow_add-end : goal.overflow_add-end
overflow_add-end c =
    omega (arith, (known (call c.args.list.now c.args.tree.now c.args.messages.now c.args.work.now c.args.source_length c.args.version c.args.used_low c.args.used_high c.args.limit) c.in_ok-n.n (c.in_ok-n.ensures)).tokens)

pub slice_bounds-part-end : goal.slice_bounds-part-end
slice_bounds-part-end c =
    (known (call c.args.list.now c.args.tree.now c.args.messages.now c.args.work.now c.args.source_length c.args.version c.args.used_low c.args.used_high c.args.limit) c.in_ok-n.n (c.in_ok-n.ensures)).work

pub slice_bounds-part-end-2 : goal.slice_bounds-part-end-2
slice_bounds-part-end-2 c =
    sym (call-reads (call c.args.list.now c.args.tree.now c.args.messages.now c.args.work.now c.args.source_length c.args.version c.args.used_low c.args.used_high c.args.limit) c.in_ok-n.n (c.in_ok-n.ensures)).words

pub read-answered-requires : goal.read-answered-requires
read-answered-requires c =
    call-reads (call c.args.list.now c.args.tree.now c.args.messages.now c.args.work.now c.args.source_length c.args.version c.args.used_low c.args.used_high c.args.limit) c.in_ok-n.n (c.in_ok-n.ensures)
