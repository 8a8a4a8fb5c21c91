-- `everylist::step::put_head`: the line up to its i-th letter is laid.
use Rattle.text.specs.Text.{Wrote}
use Rattle.everylist.specs.{EveryList.{spaced_out}, Steps.{letters_in}}
use Rattle.everylist.proofs.step.put_head.Given as goal

abbrev pub invariant-loop-i : goal.invariant-loop-i
invariant-loop-i l = Wrote l.initial.out l.initial.end (spaced_out (letters_in l.i l.list)) l.end l.out
