-- `buffers::emit::copy_tree`: the first i words are copied.
use mathlib.Core.Path.{◌≡◌}
use lib.ListN.{take}
use Rattle.molang.specs.Parse.{in_front}
use Rattle.buffers.proofs.emit.copy_tree.Given as goal

abbrev pub invariant-loop-i : goal.invariant-loop-i
invariant-loop-i l = l.tree ≡ in_front (take l.i l.words) l.initial.tree
