-- `liftcount::feed::feed_words`: no word has begun, and the bytes that are left lead from here to where all lead.
use Prim.Native.Nat.{◌%◌, ◌^◌, ◌<◌}
use mathlib.Core.Path.{◌≡◌}
use lib.ListN.{length}
use Rattle.liftcount.specs.Running.{state_of, fed}
use Rattle.liftcount.proofs.feed.feed_words.Given as goal

abbrev pub invariant-loop-word : goal.invariant-loop-word
invariant-loop-word l =
    (l.word-iterator.size ≡ 4)
    × (length l.word-iterator.rest.now % 4 ≡ 0)
    × (l.then.held ≡ 0)
    × (l.then.partial < 2 ^ 32)
    × (fed (state_of l.then l.list) l.word-iterator.rest.now ≡ fed (state_of l.initial.then l.initial.list) l.bytes)
