-- `nodes::children::attach` meets its contract.
use Rattle.nodes.proofs.{Stores.{attach-words}}
use Rattle.nodes.proofs.children.attach.Goals as goal

pub returns : goal.returns
returns c =
    attach-words
    c.args.work.now
    c.set_first.new.work
    c.set_next.new.work
    c.set_classes.new.work
    c.args.parent
    c.args.child
    c.classes_of-below.result.0
    c.requires.0
    c.requires.1
    c.set_first.ensures
    c.set_next.ensures
    c.classes_of-below.ensures
    c.set_classes.ensures
