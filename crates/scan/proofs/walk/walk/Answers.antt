-- `scan::walk::walk` meets its contract. Assumes nothing.
use mir.Facts.{to_z-of_z}
use Rattle.scan.proofs.{FoundLaws.{scanned}, WalkLaws.{can-emit, has-emitted}}
use Rattle.scan.proofs.walk.walk.Goals as goal

pub emit-nodes-requires : goal.emit-nodes-requires
emit-nodes-requires c =
    let a = c.args in
    let k = scanned c.requires a.used a.version _ (to_z-of_z c.ranges.version) c.scan.ensures c.in_ok-from.was in
    can-emit _ _ _ _ c.requires _ a.version _ _ k.2 k.1 k.0

pub returns : goal.returns
returns c =
    let a = c.args in
    let k = scanned c.requires a.used a.version _ (to_z-of_z c.ranges.version) c.scan.ensures c.in_ok-from.was in
    has-emitted _ _ _ _ c.requires _ a.version _ _ k.2 k.1 k.0 _ _ c.emit-nodes.ensures.value c.emit-nodes.ensures.tree_after
