-- `table::close_of` meets its contract: a node of nine digits and one of fewer. Assumes nothing.
use borrow.Author.Tests.{lt-ltb, le-ltb}
use Rattle.molang.specs.Lines.{close_in}
use Rattle.table.proofs.close_of.Goals as goal

pub returns-then-node-lt100000000 : goal.returns-then-node-lt100000000
returns-then-node-lt100000000 c =
    unfold close_in in rw (close_in, lt-ltb c.args.node 100000000 c.if-node-lt100000000.true)

pub returns : goal.returns
returns c =
    unfold close_in in rw (close_in, le-ltb c.args.node 100000000 c.if-node-lt100000000.false)
