-- `write::spell::descend` meets its contract. The loop's invariant is that it stands at one of the first children; the measure is the words
-- that are left.
use Prim.Native.Nat.{◌-◌}
use mathlib.Core.Path.{◌≡◌}
use lib.ListN.{length}
use Rattle.write.specs.{Reading.{children_at}, Spine.{Spine}}
use Rattle.write.proofs.spell.descend.Given as goal

abbrev pub invariant-loop-children : goal.invariant-loop-children
invariant-loop-children l =
    Spine l.words l.node l.front × (l.children ≡ children_at l.words l.node)

abbrev pub decreases-loop-children : goal.decreases-loop-children
decreases-loop-children l =
    length l.words - l.node
