-- `verdicts::read` meets its contract: the fronts of fresh buffers. Assumes nothing.
use Prim.Native.Nat.{◌*◌, ◌/◌, ◌+◌}
use mathlib.Core.Path.{◌∙◌}
use native.Mathlib.Omega.{arith}
use mir.Facts.{to_z-of_z}
use lib.ListN.{length}
use Rattle.verdicts.proofs.{VerdictLaws.{part, read-fresh}}
use Rattle.verdicts.proofs.read.Goals as goal

pub returns : goal.returns
returns c =
    let list = c.args.list.now in
    let n = length list / 5 in
    let tree = part (21 * n) 86037 0 c.fresh_tree-tree.result c.fresh_tree-tree.ensures (omega arith) in
    let work = part (64 * n + 64) 262272 1 c.fresh_work-work.result c.fresh_work-work.ensures (omega arith) in
    c.read_with.ensures ∙ read-fresh list c.args.said.now c.args.limit (to_z-of_z c.ranges.version) tree work
