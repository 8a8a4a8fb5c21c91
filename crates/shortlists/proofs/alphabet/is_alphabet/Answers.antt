-- `shortlists::alphabet::is_alphabet` meets its contract: the definition's tests, in its order.
use Rattle.std.proofs.Common.{arith}
use Rattle.std.proofs.lemmas.Bool.Decides.{nat_tests}
use Rattle.shortlists.specs.ShortLists.{is_alphabet}
use Rattle.shortlists.proofs.alphabet.is_alphabet.Goals as goal

pub returns-then-is_empty : goal.returns-then-is_empty
unfolding is_alphabet
returns-then-is_empty c = grind (arith, nat_tests)

pub returns-then-all_different : goal.returns-then-all_different
unfolding is_alphabet
returns-then-all_different c = grind (arith, nat_tests)

pub returns-else-all_different : goal.returns-else-all_different
unfolding is_alphabet
returns-else-all_different c = grind (arith, nat_tests)
