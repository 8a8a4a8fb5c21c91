-- `end_statement`: a new node takes the items and stands in the word of the first of them.
use mathlib.Core.Path.{refl, ◌∙◌}
use native.Mathlib.Omega.{arith}
use Rattle.nodes.proofs.Runs.{set_long}
use Rattle.passes.proofs.{StatementLaws.{give-first, give-made}}
use Rattle.passes.proofs.statements.end_statement.Goals as goal

pub make-requires : goal.make-requires
make-requires c =
    let first = give-first c.requires.0 c.requires.1 in
    (omega (arith, c.requires.0.own, c.requires.0.below, c.requires.0.room), omega (arith, c.requires.0.below, c.requires.0.room))

pub give_children-requires : goal.give_children-requires
give_children-requires c =
    give-made c.make.ensures c.requires.0

pub shape_of-work : goal.shape_of-work
shape_of-work c =
    set_long c.give_children.new.work _ c.args.at c.args.slot refl
    ∙ c.give_children.ensures.long ∙ c.make.ensures.long
