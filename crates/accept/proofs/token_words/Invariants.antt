-- `accept::token_words` meets its contract: what the check of the whole list answers is answered by the words that are left. Assumes
use Rattle.accept.proofs.{AcceptLaws.{PassedTo}}
use Rattle.accept.proofs.token_words.Given as goal

abbrev pub invariant-loop-i : goal.invariant-loop-i
invariant-loop-i l =
    PassedTo l.list l.n l.i
