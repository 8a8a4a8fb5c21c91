-- `nodes::slots::set_leaf` meets its contract: the token's words, and three stores after them. Assumes nothing.
use lib.ListN.{length-set}
use Rattle.nodes.proofs.{Stores.{laid-words}}
use borrow.Author.Rules.{rules}
use Rattle.nodes.proofs.slots.set_leaf.Goals as goal

pub returns : goal.returns
returns c =
    let a = c.args in
    laid-words a.work.now _ a.s a.token a.classes.0 c.requires c.lay.ensures

pub bounds-work-at-2 : goal.bounds-work-at-2
bounds-work-at-2 c =
    simp length-set (search rules)

pub bounds-work-at-3 : goal.bounds-work-at-3
bounds-work-at-3 c =
    simp length-set (search rules)
