-- `shortlists::digits::list_of` meets its contract. The loop's invariant: the letters that are to come, laid behind those that are laid,
use lib.ListN.{replicate}
use Rattle.molang.specs.{Parse.{in_front}, Words.{list_words}}
use Rattle.shortlists.specs.{ShortLists.{list_at}}
use Rattle.shortlists.proofs.DigitLaws.{Laying}
use Rattle.shortlists.proofs.digits.list_of.Given as goal

abbrev pub invariant-loop-i : goal.invariant-loop-i
invariant-loop-i l =
    Laying l.alphabet l.length (in_front (list_words (list_at l.alphabet 6 l.position)) (replicate 30 0)) l.size l.left l.words l.i
