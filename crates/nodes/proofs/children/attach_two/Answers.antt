-- `nodes::children::attach_two` meets its contract.
use Rattle.nodes.proofs.{Stores.{attach-two-words}}
use Rattle.nodes.proofs.children.attach_two.Goals as goal

pub returns : goal.returns
returns c =
    attach-two-words
    c.args.work.now
    c.set_first.new.work
    c.set_next.new.work
    c.set_next-2.new.work
    c.set_classes.new.work
    c.args.parent
    c.args.left
    c.args.right
    c.classes_of.result.0
    c.classes_of-2.result.0
    c.union-below.result.0
    c.requires.0
    c.requires.1
    c.requires.2
    c.requires.3
    c.set_first.ensures
    c.set_next.ensures
    c.set_next-2.ensures
    c.classes_of.ensures
    c.classes_of-2.ensures
    c.union-below.ensures
    c.set_classes.ensures
