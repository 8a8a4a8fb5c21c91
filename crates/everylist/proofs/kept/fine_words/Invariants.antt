-- `everylist::kept::fine_words`: the words from i on decide.
use Rattle.std.proofs.Common.{◌≡◌, drop}
use Rattle.listing.specs.Lists.{words_in}
use Rattle.everylist.specs.EveryList.{all_numbers}
use Rattle.everylist.proofs.kept.fine_words.Given as goal

abbrev pub invariant-loop-i : goal.invariant-loop-i
invariant-loop-i l = all_numbers (words_in l.chunk) ≡ all_numbers (drop l.i (words_in l.chunk))
