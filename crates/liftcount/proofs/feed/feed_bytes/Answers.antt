-- `liftcount::feed::feed_bytes` meets its contract: byte after byte. Assumes nothing.
use Prim.Native.Nat.{◌+◌}
use mathlib.Core.{Path.{ap, sym, ◌∙◌}}
use native.Mathlib.Omega.{arith}
use lib.ListN.{drop}
use Rattle.liftcount.specs.{Running.{State, state_of, fed}}
use Rattle.liftcount.proofs.FeedLaws.{byte-on, fed-end}
use Rattle.liftcount.proofs.feed.feed_bytes.Goals as goal

pub loop-b-preserved : goal.loop-b-preserved
loop-b-preserved c =
    let at = c.loop-b in
    let bytes = c.args.bytes.now in
    ap (λ (s : State). fed s (drop (at.b-index + 1) bytes)) c.take_byte-then.ensures
    ∙ sym (byte-on (state_of at.then at.list) bytes at.b-index (omega arith))
    ∙ at.invariant

pub returns : goal.returns
returns c =
    let at = c.loop-b in
    sym (fed-end (state_of at.then at.list) c.args.bytes.now at.b-index (omega arith)) ∙ at.invariant
