-- `verdicts::write_tree` meets its contract: the front of a fresh list. Assumes nothing.
use Prim.Native.Nat.{◌*◌, ◌/◌}
use mathlib.Core.Path.{◌∙◌}
use native.Mathlib.Omega.{arith}
use lib.ListN.{length}
use Rattle.verdicts.proofs.{VerdictLaws.{part, write-fresh}}
use Rattle.verdicts.proofs.write_tree.Goals as goal

pub returns : goal.returns
returns c =
    let a = c.args in
    let list = part (length a.tree.now / 7 * 15) 86037 0 c.fresh_tree-list.result c.fresh_tree-list.ensures (omega arith) in
    c.write_with.ensures ∙ write-fresh a.tree.now a.said.now list
