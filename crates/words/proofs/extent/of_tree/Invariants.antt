-- `words::extent::of_tree` meets its contract: what was seen, with the trees that are still called for, has the first tree's extent.
use Prim.Native.Nat.{◌+◌, ◌*◌, ◌^◌, ◌<◌}
use mathlib.Core.{Path.{◌≡◌}}
use lib.{ListN.{length}}
use Rattle.molang.specs.{WriteEntry.{first_trees, trees_of}}
use Rattle.words.specs.{Extents.{extent_with, first_extent}}
use Rattle.words.proofs.extent.of_tree.Given as goal

abbrev pub invariant-loop-node : goal.invariant-loop-node
invariant-loop-node l =
    (extent_with l.seen (first_trees l.trees (trees_of l.node-iterator.rest.now)) ≡ first_extent (trees_of l.words))
    × (l.node-iterator.size ≡ 7)
    × (l.trees + 2 ^ 29 * length l.node-iterator.rest.now < 2 ^ 64)
