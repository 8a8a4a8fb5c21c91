-- `held::edits::read_edited` meets its contract: the entry's first two rows by the lengths, and then the reading of what was laid. Assumes
-- nothing.
use Prim.Native.Nat.{◌≤◌}
use mathlib.Core.Path.{◌≡◌, sym, ap, ◌∙◌}
use native.Mathlib.Omega.{arith}
use mir.Facts.{to_z-of_z}
use lib.{ListN.{length, take}, Seq.{length-take-le}}
use Rattle.molang.proofs.HandedTree.{front-words}
use Rattle.held.specs.{Held.{edited}, Answers.{edit}}
use Rattle.held.proofs.{EditLaws.{can-splice, not-whole, too_many, always}}
use Rattle.held.proofs.edits.read_edited.Goals.{After-splice-n}
use Rattle.held.proofs.edits.read_edited.Goals as goal

pub returns-then-put-ne0 : goal.returns-then-put-ne0
returns-then-put-ne0 c =
    let a = c.args in
    rw c.at.ensures
    (record {
      has_parsed = not-whole (edit a.place a.removed a.put.now) a.new.now a.list.now c.requires a.tree.now a.messages.now a.work.now
          a.version a.limit c.if-put-ne0.true;
      after = tt;
    })

pub overflow_sub-kept : goal.overflow_sub-kept
overflow_sub-kept c = omega (arith, c.requires.within)

pub overflow_sub-kept-2 : goal.overflow_sub-kept-2
overflow_sub-kept-2 c = omega (arith, c.requires.few)

pub returns-then-kept-put : goal.returns-then-kept-put
returns-then-kept-put c =
    let a = c.args in
    rw c.at-then-kept-put.ensures
    (record {
      has_parsed = too_many (edit a.place a.removed a.put.now) a.new.now a.list.now c.requires a.tree.now a.messages.now a.work.now
          a.version a.limit c.if-put-ne0.false c.if-kept-put.true;
      after = tt;
    })

-- There is room for the new list.
pub splice-n-requires : goal.splice-n-requires
splice-n-requires c =
    let a = c.args in
    can-splice (edit a.place a.removed a.put.now) a.new.now a.list.now c.requires c.if-put-ne0.false c.if-kept-put.false

-- The new list stands in front of the array.
within : (c : After-splice-n) → c.splice-n.result ≤ length c.splice-n.new.new
within c =
    let a = c.args in
    omega (
      arith,
      c.splice-n.auto.new,
      c.splice-n.ensures.value,
      (can-splice (edit a.place a.removed a.put.now) a.new.now a.list.now c.requires c.if-put-ne0.false c.if-kept-put.false).room,
    )

pub returns : goal.returns
returns c =
    let a = c.args in
    let laid : take c.splice-n.result c.splice-n.new.new ≡ edited (edit a.place a.removed a.put.now) a.list.now =
    ap (take c.splice-n.result) c.splice-n.ensures.after ∙ front-words _ _ c.splice-n.result (sym c.splice-n.ensures.value) in
    record {
      has_parsed = rw (to_z-of_z c.ranges.version, laid) at c.read_own.ensures;
      after = always c.read_own.result c.splice-n.ensures.after;
    }

pub slice_bounds-read_own-end : goal.slice_bounds-read_own-end
slice_bounds-read_own-end c =
    within (goal.at.slice_bounds-read_own-end c).After-splice-n

pub slice_bounds-read_own-end-2 : goal.slice_bounds-read_own-end-2
slice_bounds-read_own-end-2 c =
    sym (length-take-le _ _ (within (goal.at.slice_bounds-read_own-end-2 c).After-splice-n))
