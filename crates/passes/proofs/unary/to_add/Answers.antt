-- `to_add`: the slot is renamed, and a leaf notes the classes of `+` (UnaryPrefix).
use mathlib.Core.Path.{sym, ◌∙◌}
use Rattle.passes.proofs.UnaryPrefix.{added-leaf-words, added-inner-words}
use Rattle.passes.proofs.unary.to_add.Goals as goal

pub returns-then-leaf : goal.returns-then-leaf
returns-then-leaf c =
    added-leaf-words c.args.work.now c.set_operator.new.work c.set_classes.new.work c.args.s c.requires
    (sym c.is_leaf-leaf.ensures ∙ c.if-leaf.true) c.set_operator.ensures c.set_classes.ensures

pub returns-else-leaf : goal.returns-else-leaf
returns-else-leaf c =
    added-inner-words c.args.work.now c.set_operator.new.work c.args.s (sym c.is_leaf-leaf.ensures ∙ c.if-leaf.false)
    c.set_operator.ensures
