-- `shortlists::alphabet::all_different`: the letters that are left are different exactly if all are.
use Rattle.std.proofs.Common.{◌≡◌, drop}
use Rattle.shortlists.specs.ShortLists.{different}
use Rattle.shortlists.proofs.alphabet.all_different.Given as goal

abbrev pub invariant-loop-i : goal.invariant-loop-i
invariant-loop-i l = different (drop l.i l.alphabet) ≡ different l.alphabet
