-- `shape::walk::fault_after`: the fault of the words that are left, at what was seen so far, is the fault of all.
use Rattle.shape.specs.{Answers.{field_of}, Walks.{Seen}}
use Rattle.shape.proofs.walk.fault_after.Given as goal

abbrev pub invariant-loop-i : goal.invariant-loop-i
invariant-loop-i g l =
    let w = g.W.Walk in Seen w.Holds w.fault w.start l.words (field_of l.field) l.variant l.walk l.i
