-- `listing::bytes::words_of`: the first i words are those of the bytes.
use Rattle.std.proofs.Common.{◌≡◌, take}
use Rattle.listing.specs.Lists.{words_in}
use Rattle.listing.proofs.bytes.words_of.Given as goal

abbrev pub invariant-loop-i : goal.invariant-loop-i
invariant-loop-i l = take l.i l.words ≡ take l.i (words_in l.bytes)
