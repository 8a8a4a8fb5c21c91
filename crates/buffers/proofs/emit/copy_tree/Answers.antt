-- `buffers::emit::copy_tree` meets its contract: the first i words are copied.
use mathlib.Core.Path.{refl}
use Rattle.molang.specs.Parse.{in_front}
use Rattle.buffers.proofs.Copying.{copy_step}
use Rattle.buffers.proofs.emit.copy_tree.Goals as goal

pub loop-i-init : goal.loop-i-init
loop-i-init c = unfold in_front in refl

pub loop-i-preserved : goal.loop-i-preserved
loop-i-preserved c =
    copy_step c.args.words.now c.args.tree.now c.loop-i.tree c.loop-i.i c.requires c.loop-i-test.true c.loop-i.invariant
