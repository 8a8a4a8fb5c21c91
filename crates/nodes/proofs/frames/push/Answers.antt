-- `nodes::frames::push` meets its contract.
use Prim.Native.Nat.{◌+◌}
use native.Mathlib.Numerals.{towards_suc}
use lib.ListN.{length-set}
use Rattle.words.proofs.RecordLaws.{laid-sets}
use Rattle.nodes.proofs.{Stores.{frame_words, pushed-words}}
use borrow.Author.Rules.{rules}
use Rattle.nodes.proofs.frames.push.Goals as goal

pub returns : goal.returns
returns c =
    let a = c.args in
    pushed-words a.work.now _ a.list a.held c.requires.room
    (simp towards_suc (laid-sets (frame_words a.list a.held) a.work.now (a.list.base + a.list.len) c.requires.room))

pub bounds-work-top-2 : goal.bounds-work-top-2
bounds-work-top-2 c =
    simp length-set (search rules)

pub bounds-work-top-3 : goal.bounds-work-top-3
bounds-work-top-3 c =
    simp length-set (search rules)

pub bounds-work-top-4 : goal.bounds-work-top-4
bounds-work-top-4 c =
    simp length-set (search rules)

pub bounds-work-top-5 : goal.bounds-work-top-5
bounds-work-top-5 c =
    simp length-set (search rules)

pub bounds-work-top-6 : goal.bounds-work-top-6
bounds-work-top-6 c =
    simp length-set (search rules)
