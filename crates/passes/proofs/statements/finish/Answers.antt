-- `finish`: the open statement is ended, and the list's node takes all statements (StatementFinish).
use Prim.Native.Nat.{ℕ}
use mathlib.Core.Path.{refl, ap, ◌∙◌}
use native.Mathlib.Omega.{arith}
use lib.ListN.{set}
use Rattle.nodes.proofs.Runs.{set_long}
use Rattle.passes.proofs.{StatementFinish.{finish-closes, finish-asks, split-ends}}
use Rattle.passes.proofs.statements.finish.Goals as goal

pub bounds-work-base : goal.bounds-work-base
bounds-work-base c =
    (finish-asks c.requires
    (rw c.wide.ensures at c.end_open-statements.ensures)).inside

pub second_spare-node-requires : goal.second_spare-node-requires
second_spare-node-requires c =
    (finish-asks c.requires
    (rw c.wide.ensures at c.end_open-statements.ensures)).spare

pub give_children-requires : goal.give_children-requires
give_children-requires c =
    rw c.second_spare-node.ensures
    (finish-asks c.requires
    (rw c.wide.ensures at
    c.end_open-statements.ensures)).give

pub bounds-work-base-2 : goal.bounds-work-base-2
bounds-work-base-2 c =
    omega (
      arith,
      (finish-asks c.requires
          (rw c.wide.ensures at
          c.end_open-statements.ensures)).inside,
      c.give_children.ensures.long,
    )

pub shape_of-work : goal.shape_of-work
shape_of-work c =
    set_long c.give_children.new.work _
    c.args.list.base
    c.second_spare-node.result refl
    ∙ c.give_children.ensures.long
    ∙ (finish-asks c.requires
    (rw c.wide.ensures at
    c.end_open-statements.ensures)).long

pub returns : goal.returns
returns c =
    let base = c.args.list.base in
    split-ends
    (rw c.wide.ensures at
    c.end_open-statements.ensures)
    (rw c.second_spare-node.ensures at c.give_children.ensures)
    (ap (λ (x : ℕ). set c.give_children.new.work base x) c.second_spare-node.ensures)

pub end_open-statements-requires : goal.end_open-statements-requires
end_open-statements-requires c =
    rw c.wide.ensures (finish-closes c.requires)
