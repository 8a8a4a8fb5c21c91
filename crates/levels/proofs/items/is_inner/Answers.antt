-- `is_inner`: a leaf is not, and a node is by the classes that it notes.
use Prim.Native.Nat.{ℕ}
use Rattle.ops.specs.Classes.{shares}
use Rattle.levels.proofs.{Reading.{inner-leaf, inner-node}}
use mathlib.Core.Path.{sym, ap, ◌∙◌}
use Rattle.levels.proofs.items.is_inner.Goals as goal

pub returns-then-is_leaf : goal.returns-then-is_leaf
returns-then-is_leaf c =
    inner-leaf _ c.args.item c.args.classes.0
    (sym c.is_leaf.ensures ∙ c.if-is_leaf.true)

pub returns : goal.returns
returns c =
    let a = c.args in
    c.intersects.ensures ∙ ap (λ (x : ℕ). shares x a.classes.0) c.classes_of.ensures
    ∙ inner-node _ a.item a.classes.0 (sym c.is_leaf.ensures ∙ c.if-is_leaf.false)
