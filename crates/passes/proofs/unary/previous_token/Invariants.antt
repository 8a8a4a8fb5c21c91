-- `previous_token`: what is read and what is done give what the list gave (UnaryRight).
use Rattle.passes.proofs.UnaryRight.{SeekingBack}
use Rattle.passes.proofs.unary.previous_token.Given as goal

abbrev pub invariant-loop-read : goal.invariant-loop-read
invariant-loop-read l =
    SeekingBack l.initial.work l.list l.work l.read l.write
