-- `held::edits::splice` meets its contract: three copies lay the list with the edit made. Assumes nothing.
use Prim.Native.Nat.{◌+◌, ◌*◌, ◌-◌, ◌≤◌}
use mathlib.Core.Path.{◌≡◌, sym}
use native.Mathlib.Omega.{arith}
use lib.{ListN.{length, drop, length-drop, length-take}, Seq.{length-take-le}}
use Rattle.held.specs.{Held.{Edit, edited}, Answers.{edit}}
use Rattle.held.proofs.{EditLaws.{edited-length, edited-laid}}
use Rattle.held.proofs.edits.splice.Goals as goal
use Rattle.held.proofs.edits.splice.Lts as lts
use Rattle.held.proofs.edits.splice.Tie as tie
use Rattle.held.proofs.edits.splice.Reads as reads

-- The edit, by the values at entry; and room for what comes of it.
abbrev the-edit : (lts.Start tie.the-claims reads.Pre reads.Post tie.handed_clauses) → Edit
the-edit start = edit start.args.place start.args.removed start.args.put.now

long : (start : (lts.Start tie.the-claims reads.Pre reads.Post tie.handed_clauses))
    → let a = start.args in
    length (edited (the-edit start) a.list.now)
    ≡ 5 * a.place + length a.put.now + (length a.list.now - 5 * (a.place + a.removed))
long start = edited-length (the-edit start) start.args.list.now start.requires.within

front : (start : (lts.Start tie.the-claims reads.Pre reads.Post tie.handed_clauses)) → 5 * start.args.place ≤ length start.args.list.now
front start = omega (arith, start.requires.within)

pub copy_words-requires : goal.copy_words-requires
copy_words-requires c =
    let a = c.args in
    omega (arith, length-take-le (5 * a.place) a.list.now (front c.before.before.before.before.before), long c.before.before.before.before.before, c.requires.room)

pub copy_words-requires-2 : goal.copy_words-requires-2
copy_words-requires-2 c =
    omega (arith, c.copy_words.auto.to, long c.before.before.before.before.before.before.before.before.before, c.requires.room)

pub copy_words-requires-3 : goal.copy_words-requires-3
copy_words-requires-3 c =
    let a = c.args in
    let back = 5 * (a.place + a.removed) in
    omega (
      arith,
      c.copy_words-2.auto.to,
      c.copy_words.auto.to,
      long c.before.before.before.before.before.before.before.before.before.before.before.before.before.before,
      c.requires.room,
      length-take (length a.list.now - back) (drop back a.list.now),
      length-drop back a.list.now,
    )

pub overflow_add-result : goal.overflow_add-result
overflow_add-result c =
    omega (arith, long c.before.before.before.before.before.before.before.before.before.before.before.before.before.before.before.before.before, c.requires.room)

pub returns : goal.returns
returns c =
    let a = c.args in
    record {
      value = sym (long c.before.before.before.before.before.before.before.before.before.before.before.before.before.before.before.before.before);
      after = edited-laid (the-edit c.before.before.before.before.before.before.before.before.before.before.before.before.before.before.before.before.before) a.list.now c.requires.within a.new.now c.copy_words.ensures
          c.copy_words-2.ensures c.copy_words-3.ensures;
    }

pub overflow_add-behind : goal.overflow_add-behind
overflow_add-behind c =
    omega (arith, long c.before.before.before.before, c.requires.room)

pub slice_bounds-copy_words-end : goal.slice_bounds-copy_words-end
slice_bounds-copy_words-end c =
    sym (length-take-le _ _ (front c.before.before.before.before))
