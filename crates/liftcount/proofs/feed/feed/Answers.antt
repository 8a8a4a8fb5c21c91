-- `liftcount::feed::feed` meets its contract: whole words, then what is left; or bytes, where a word has begun. Assumes nothing.
use Prim.Native.Nat.{◌-◌, ◌*◌, ◌/◌}
use mathlib.Core.Path.{ap, sym, ◌∙◌}
use native.Mathlib.Omega.{arith}
use lib.{ListN.{length, take, drop}, Seq.{length-take-le}}
use Rattle.liftcount.specs.Running.{State, state_of, fed}
use Rattle.liftcount.proofs.{FeedLaws.{chunk-parts}}
use Rattle.liftcount.proofs.feed.feed.Goals as goal

pub feed_words-then-requires : goal.feed_words-then-requires
feed_words-then-requires c =
    let chunk = c.args.chunk.now in
    let size = length-take-le (length chunk / 4 * 4) chunk (omega arith) in
    record { held_value = (c.if-held-ne0.false, omega (arith, size)) }

pub returns : goal.returns
returns c =
    let chunk = c.args.chunk.now in
    let whole = length chunk / 4 * 4 in
    c.feed_bytes-2.ensures
    ∙ ap (λ (s : State). fed s (take (length chunk - whole) (drop whole chunk))) c.feed_words-then.ensures
    ∙ chunk-parts (state_of c.args.run c.args.list.now) chunk whole (omega arith)

pub slice_bounds-feed_words-end : goal.slice_bounds-feed_words-end
slice_bounds-feed_words-end c =
    sym (length-take-le _ c.args.chunk.now (omega arith))
